use Rattle.sh_files.proofs.Elements.{first_element, only_element}
use Rattle.sh_files.proofs.search.split_element.Goals as goal

pub returns-in-Some-clause-parts : goal.returns-in-Some-clause-parts
returns-in-Some-clause-parts c = first_element c.args.value.now c.in-Some.place c.in-Some.ensures.place

pub returns-in-None-clause-parts : goal.returns-in-None-clause-parts
returns-in-None-clause-parts c = only_element c.args.value.now c.in-None.ensures.place
