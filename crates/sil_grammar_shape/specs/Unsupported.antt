-- When the first bad token is unsupported: it names something of a kind that the grammar knows, and the grammar lacks it.
use Rattle.std.specs.Prelude.{◌≡◌, ◌⊎◌, ℕ, Bool, true, false, List, [], ◌∷◌, ◌++◌, take, slice_get, Some}
use Rattle.instruction_table.specs.declared.op.Op.TheVariants as op
use Rattle.sil_grammar_classes.specs.declared.classes.Keyword.{Keyword}
use Rattle.sil_grammar_classes.specs.declared.classes.Keyword.TheVariants as k
use Rattle.sil_grammar_classes.specs.declared.classes.Class.{Class}
use Rattle.sil_grammar_classes.specs.declared.classes.Class.TheVariants as c
use Rattle.sil_grammar_shape.specs.Derivation.{BeginsShape, IsFirstBad}

abbrev pub is_mnemonic : Keyword → Bool
is_mnemonic (k.Mnemonic o) = true
is_mnemonic _ = false

-- some list that has shape begins with these classes and then this one
abbrev pub GoesOn : List Class → Class → Type 0
GoesOn front k = BeginsShape (front ++ k ∷ [])

-- The token isn't known where a mnemonic, an integer type's word or a builtin's name must stand.
-- `load` stands nowhere in the grammar but as a mnemonic, and `Int64` nowhere but after `Builtin.`; elsewhere they are
-- names as any other word.
abbrev pub IsUnknown : List Class → Class → Type 0
IsUnknown front (c.Word word) = ((is_mnemonic word ≡ false) × GoesOn front (c.Word (k.Mnemonic op.Load))) ⊎ GoesOn front (c.Word k.Int64)
IsUnknown front c.OtherText = GoesOn front c.BuiltinText
IsUnknown front _ = ⊥

pub record IsUnsupported (classes : List Class) (place : ℕ) : Type 0 where
  pub first_bad : IsFirstBad classes place
  pub token : Class
  pub there : slice_get classes place ≡ Some token
  pub unknown : IsUnknown (take place classes) token
