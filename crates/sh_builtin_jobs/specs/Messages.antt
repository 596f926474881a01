-- The messages of kill, jobs, fg and bg: the name of the built-in, what was asked for, and what is said of it.
use Rattle.std.specs.Prelude.{ℕ, List, [], ◌∷◌, ◌++◌, codes}
use Rattle.sh_jobs.specs.declared.fault.JobFault.{JobFault}
use Rattle.sh_jobs.specs.declared.fault.JobFault.TheVariants.{NoSuchJob, Ambiguous}

-- a message is a line
abbrev pub message : (name text : List ℕ) → List ℕ
message name text = codes "psh: " ++ name ++ codes ": " ++ text ++ 10 ∷ []

abbrev pub message_about : (name word text : List ℕ) → List ℕ
message_about name word text = message name (word ++ codes ": " ++ text)

-- what is said of a job ID that names no job
abbrev pub fault_text : JobFault → List ℕ
fault_text NoSuchJob = codes "no such job"
fault_text Ambiguous = codes "ambiguous"
