-- What is told where the tokens of a text break off.
use Rattle.std.proofs.Common.{◌≡◌, ℕ, ◌+◌, Some, None, Ok, Err, refl, ap}
use Rattle.sh_token.specs.declared.token.TokenFault.{TokenFault}
use Rattle.sh_token.specs.FirstToken.{Found, Unfinished, DeepAt}
use Rattle.sh_parse_documents.specs.declared.item.Item.{Item}
use Rattle.sh_parse_documents.specs.Items.{FirstItem, FoundItem, NoItem, item_at, GivesItem}
use Rattle.sh_parse_words.specs.declared.fault.PartFault.TheVariants as fault
use Rattle.sh_parse_commands.specs.Cuts.{told_of}

pub none_told : (at : ℕ) (first : FirstItem) (t : Item) → GivesItem (Ok t) (item_at at first) → None ≡ told_of at first
none_told at (FoundItem kind start stop after) t g = refl
none_told at (NoItem Unfinished) t g = refl
none_told at (NoItem (Found kind start stop)) t g = refl
none_told at (NoItem (DeepAt place)) t g = absurd (cc)

pub unfinished_told : (at : ℕ) (first : FirstItem) → GivesItem (Err TokenFault.Unfinished) (item_at at first) → None ≡ told_of at first
unfinished_told at (FoundItem kind start stop after) g = refl
unfinished_told at (NoItem Unfinished) g = refl
unfinished_told at (NoItem (Found kind start stop)) g = refl
unfinished_told at (NoItem (DeepAt place)) g = absurd (cc)

pub deep_told : (at place : ℕ) (first : FirstItem) → GivesItem (Err (TokenFault.TooDeep place)) (item_at at first) → Some (fault.TooDeep place) ≡ told_of at first
deep_told at place (FoundItem kind start stop after) g = absurd (cc)
deep_told at place (NoItem Unfinished) g = absurd (cc)
deep_told at place (NoItem (Found kind start stop)) g = absurd (cc)
deep_told at place (NoItem (DeepAt n)) g = let q : place ≡ at + n = cc in ap (λ x. Some (fault.TooDeep x)) q
