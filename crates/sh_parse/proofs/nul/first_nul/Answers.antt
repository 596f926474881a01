use Rattle.std.proofs.Common.{◌≡◌, ◌+◌, Some, None, take, drop, sym, ap, ◌∙◌}
use Rattle.std.specs.Option.{option_map}
use Rattle.sh_parse.specs.Reading.{nul_in}
use Rattle.sh_parse.proofs.Nuls.{nul_follows}
use Rattle.sh_parse.proofs.nul.first_nul.Goals as goal

pub returns-in-Some-nul_among : goal.returns-in-Some-nul_among
returns-in-Some-nul_among c =
    let o : Some c.in-Some-nul_among.place ≡ nul_in (drop c.args.from (take c.args.to c.args.text.now)) = sym c.in-Some-nul_among.is ∙ (c.nul_among.ensures ∙ ap (λ z. nul_in z) c.between.ensures) in
    ap (option_map (λ m. c.args.from + m)) o ∙ sym (nul_follows c.args.from c.args.to c.args.text.now (sym c.requires.nul ∙ c.in-None.is) c.requires.ordered c.requires.inside)

pub returns-in-None-nul_among : goal.returns-in-None-nul_among
returns-in-None-nul_among c =
    let o : None ≡ nul_in (drop c.args.from (take c.args.to c.args.text.now)) = sym c.in-None-nul_among.is ∙ (c.nul_among.ensures ∙ ap (λ z. nul_in z) c.between.ensures) in
    ap (option_map (λ m. c.args.from + m)) o ∙ sym (nul_follows c.args.from c.args.to c.args.text.now (sym c.requires.nul ∙ c.in-None.is) c.requires.ordered c.requires.inside)
