-- The words for the quantities that have a limit.
use Rattle.std.specs.Prelude.{ℕ, List, codes}
use Rattle.sil_rules.specs.declared.limit_word.LimitWord.{LimitWord}
use Rattle.sil_rules.specs.declared.limit_word.LimitWord.TheVariants.{Text, Name, Declarations, Members, Arguments, Functions}
use Rattle.sil_rules.specs.declared.limit_word.LimitWord.TheVariants.{Blocks, Instructions, Values, Depth, Leaves}

-- the word that an answer prints
abbrev pub word_of : LimitWord → List ℕ
word_of Text = codes "text"
word_of Name = codes "name"
word_of Declarations = codes "declarations"
word_of Members = codes "members"
word_of Arguments = codes "arguments"
word_of Functions = codes "functions"
word_of Blocks = codes "blocks"
word_of Instructions = codes "instructions"
word_of Values = codes "values"
word_of Depth = codes "depth"
word_of Leaves = codes "leaves"
