-- Each number is in its range, and each builtin operation has a name that is known.
use Rattle.std.specs.Prelude.{ℕ, ◌≤◌, ◌-◌, ◌^◌, ℤ, pos, neg_ℤ, int_le, int_lt, List, Option, Some, None, Bool, true, ◌&&◌, IsTrue, IfSome}
use Rattle.instruction_table.specs.Forms.{detail_of}
use Rattle.instruction_table.specs.declared.entries.Detail.{Detail}
use Rattle.instruction_table.specs.declared.entries.Detail.TheVariants as detail
use Rattle.sil_ast.specs.declared.inst.Inst.{Inst}
use Rattle.sil_ast.specs.declared.module.Module.{Module}
use Rattle.instruction_table.specs.declared.op.Op.{Op}
use Rattle.sil_ast.specs.declared.type_name.TypeName.{TypeName, out-TypeName}
use Rattle.sil_ast.specs.declared.type_name.TypeName.TheOpen.{TypeName-F, Int}
use Rattle.instruction_table.specs.BuiltinNames.BuiltinNames.{is_builtin_name}
use Rattle.sil_rules.specs.declared.limits.TheConstants.{ARGUMENTS}
use Rattle.numbered_form.specs.Insts.{EachInst}

-- the width of a builtin integer, and 64 for every other type
abbrev pub width_at : TypeName-F TypeName → ℕ
width_at (Int width) = width
width_at other = 64

abbrev pub literal_width : Option TypeName → ℕ
literal_width None = 64
literal_width (Some t) = width_at (out-TypeName t)

-- a signed residue of the width: from -2^(width - 1) to 2^(width - 1) - 1
abbrev pub is_residue : ℕ → ℤ → Bool
is_residue width n = int_le (neg_ℤ (pos (2 ^ (width - 1)))) n && int_lt n (pos (2 ^ (width - 1)))

-- the number of a tuple's element
abbrev pub is_element_number : ℤ → Bool
is_element_number n = int_le (pos 0) n && int_le n (pos (ARGUMENTS - 1))

abbrev pub is_number_by : Detail → Option TypeName → ℤ → Bool
is_number_by detail.Literal ty n = is_residue (literal_width ty) n
is_number_by detail.Element ty n = is_element_number n
is_number_by detail.NoDetail ty n = true
is_number_by detail.Operation ty n = true
is_number_by detail.Message ty n = true
is_number_by detail.Field ty n = true
is_number_by detail.Case ty n = true

-- the number may stand in the row, at the type
abbrev pub is_number_of : Op → Option TypeName → ℤ → Bool
is_number_of o ty n = is_number_by (detail_of o) ty n

abbrev pub is_text_by : Detail → List ℕ → Bool
is_text_by detail.Operation text = is_builtin_name text
is_text_by detail.Message text = true
is_text_by detail.NoDetail text = true
is_text_by detail.Literal text = true
is_text_by detail.Element text = true
is_text_by detail.Field text = true
is_text_by detail.Case text = true

-- the text may stand in the row
abbrev pub is_text_of : Op → List ℕ → Bool
is_text_of o text = is_text_by (detail_of o) text

pub record HasLiterals (i : Inst) : Type 0 where
  pub number : IfSome i.number (λ n. IsTrue (is_number_of i.op i.ty n))
  pub text : IfSome i.text (λ text. IsTrue (is_text_of i.op text))
  pub argno : IfSome i.debug.argno (λ n. n ≤ 65535)

abbrev pub AreLiteralsInRange : Module → Type 0
AreLiteralsInRange m = EachInst HasLiterals m
