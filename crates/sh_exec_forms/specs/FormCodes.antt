-- The code of a list of forms, by which a proof tells its values apart.
use Rattle.std.specs.Prelude.{List}
use Rattle.std.specs.Coded.{Coded, coded_list}
use Rattle.sh_exec_actions.specs.contracts.form.Form as form
use Rattle.sh_exec_actions.specs.declared.form.Form.{Form}

abbrev pub forms_code : Coded (List Form)
forms_code = coded_list form.the_row.coded
