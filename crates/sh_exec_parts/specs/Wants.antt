-- What of a simple command is expanded first (XCU 2.9.1.1): its words, and after them the word of each redirection.
use Rattle.std.specs.Prelude.{List, [], ◌∷◌, ◌++◌, Bool, option_map}
use Rattle.sh_exec_parts.specs.Declarations.{declares, word_context}
use Rattle.sh_exec_parts.specs.Simple.{before, redirect_of, redirect_wanted, word_of}
use Rattle.sh_expand.specs.declared.wanted.Wanted.{Wanted}
use Rattle.sh_syntax.specs.declared.tree.Parts.{Parts}
use Rattle.sh_syntax.specs.declared.tree.SimpleItem.{SimpleItem}

-- a word behind the name of a declaration utility, or of another command
abbrev pub argument_wanted : (declares : Bool) → Parts → Wanted
argument_wanted declares parts = record { parts = parts; context = word_context declares parts }

abbrev pub words_wanted : (declares : Bool) → List SimpleItem → List Wanted
words_wanted declares [] = []
words_wanted declares (item ∷ items) = before (option_map (argument_wanted declares) (word_of item)) (words_wanted declares items)

abbrev pub redirects_wanted : List SimpleItem → List Wanted
redirects_wanted [] = []
redirects_wanted (item ∷ items) = before (option_map redirect_wanted (redirect_of item)) (redirects_wanted items)

unfoldable pub wanted_of : List SimpleItem → List Wanted
wanted_of items = words_wanted (declares items) items ++ redirects_wanted items
