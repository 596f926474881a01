use Rattle.std.specs.Prelude.{not}
use Rattle.std.proofs.Common.{refl}
use Rattle.sh_jobs.specs.Moments.{job_brought_up}
use Rattle.sh_jobs.specs.News.{is_over}
use Rattle.sh_jobs.specs.Table.{has_number, job_after_note, job_after_telling}
use Rattle.sh_jobs.proofs.Apart.{filtered, launched_apart, mapped, noted_keeps, told_keeps}
use Rattle.sh_jobs.proofs.laws.numbers_stay_apart.Goals as goal

pub returns-clause-launch : goal.returns-clause-launch
returns-clause-launch c = launched_apart

pub returns-clause-note : goal.returns-clause-note
returns-clause-note c = λ jobs pid event apart. mapped (job_after_note pid event) (noted_keeps pid event) jobs apart

pub returns-clause-tell : goal.returns-clause-tell
returns-clause-tell c = λ jobs number state apart. mapped (job_after_telling number state) (told_keeps number state) jobs apart

pub returns-clause-remove : goal.returns-clause-remove
returns-clause-remove c = λ jobs number apart. filtered (λ job. not (has_number number job)) jobs apart

pub returns-clause-remove_told : goal.returns-clause-remove_told
returns-clause-remove_told c = λ ps jobs apart. filtered (λ job. not (is_over ps job)) jobs apart

pub returns-clause-bring_up_to_date : goal.returns-clause-bring_up_to_date
returns-clause-bring_up_to_date c = λ changes jobs apart. mapped (job_brought_up changes) (λ job. refl) jobs apart
