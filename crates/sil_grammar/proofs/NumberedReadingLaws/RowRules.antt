-- What each row of the table of instructions keeps to, by computation: a proof over any row asks no more of it.
use Rattle.std.proofs.Common.{◌≡◌, ℕ, suc, List, [], ◌∷◌, Bool, true, false, cond, ◌&&◌, ◌||◌, ◌==◌, not, nat_le, refl}
use Rattle.std.specs.List.{list_any}
use Rattle.instruction_table.specs.Forms.{extra_value_of, has_one_result, is_terminator, may_lack_operand, parts_of, words_of}
use Rattle.instruction_table.specs.declared.entries.ExtraValue.{ExtraValue}
use Rattle.instruction_table.specs.declared.entries.ExtraValue.TheVariants as extra
use Rattle.instruction_table.specs.declared.entries.Words.{Words}
use Rattle.instruction_table.specs.declared.entries.Words.TheVariants as words
use Rattle.instruction_table.specs.declared.forms.Part.{Part}
use Rattle.instruction_table.specs.declared.forms.Part.TheVariants as part
use Rattle.instruction_table.specs.declared.op.Op.{Op}
use Rattle.instruction_table.specs.declared.op.Op.TheVariants as op
use Rattle.sil_ast.specs.declared.operands.Operand.{Operand}
use Rattle.numbered_form.specs.Lists.{is_empty}
use Rattle.numbered_form.specs.inner.Parts.{are_of_parts, has_edges, is_type, row_has}
use Rattle.sil_grammar.proofs.NumberedReadingLaws.ListsAndFaults.{implied}

abbrev pub is_operand : Part → Bool
is_operand part.Typed = true
is_operand part.Bare = true
is_operand part.BareArgs = true
is_operand part.TypedArgs = true
is_operand _ = false

abbrev pub is_edges : Part → Bool
is_edges part.Edges = true
is_edges _ = false

-- how many of the parts write operands
abbrev pub operand_parts : List Part → ℕ
operand_parts [] = 0
operand_parts (here ∷ others) = cond (is_operand here) (suc (operand_parts others)) (operand_parts others)

abbrev pub takes_words : Words → Bool
takes_words words.NoWord = false
takes_words _ = true

abbrev pub takes_none : ExtraValue → Bool
takes_none extra.Never = true
takes_none _ = false

-- the part may stand before these: an operand that may be left out is the only one, a list of arguments is the last
-- of the operands, and a number stands behind its type
abbrev pub may_stand : Op → Part → List Part → Bool
may_stand o part.Qualifier others = takes_words (words_of o)
may_stand o part.Typed others = not (may_lack_operand o) || operand_parts others == 0
may_stand o part.Bare others = not (may_lack_operand o)
may_stand o part.BareArgs others = operand_parts others == 0
may_stand o part.TypedArgs others = operand_parts others == 0
may_stand o part.Number others = not (list_any is_type others)
may_stand o _ others = true

abbrev pub may_all_stand : Op → List Part → Bool
may_all_stand o [] = true
may_all_stand o (here ∷ others) = may_stand o here others && may_all_stand o others

-- a row with a part for its blocks, unless it has none
abbrev pub has_its_edges : Op → Bool
has_its_edges o = row_has is_edges o || has_edges o []

pub parts_stand : (o : Op) → may_all_stand o (parts_of o) ≡ true
parts_stand op.IntegerLiteral = refl
parts_stand _ = refl

pub edges_stand : (o : Op) → has_its_edges o ≡ true
edges_stand op.IntegerLiteral = refl
edges_stand _ = refl

-- a terminator gives no result and counts for no value more
stands_alone : (o : Op) → (not (is_terminator o) || (not (has_one_result o) && takes_none (extra_value_of o))) ≡ true
unfolding has_one_result
stands_alone op.IntegerLiteral = refl
stands_alone _ = refl

pub ends_alone : (o : Op) → is_terminator o ≡ true → (not (has_one_result o) && takes_none (extra_value_of o)) ≡ true
ends_alone o e = implied (is_terminator o) (not (has_one_result o) && takes_none (extra_value_of o)) e (stands_alone o)

pub few_operand_parts : (o : Op) → nat_le (operand_parts (parts_of o)) 64 ≡ true
few_operand_parts op.IntegerLiteral = refl
few_operand_parts _ = refl

-- parts that write no operands ask for none
pub none_asked : (ps : List Part) (os : List Operand) → operand_parts ps ≡ 0 → are_of_parts ps os ≡ is_empty os
none_asked [] os e = refl
none_asked (part.Typed ∷ ps) os e = absurd (cc)
none_asked (part.Bare ∷ ps) os e = absurd (cc)
none_asked (part.BareArgs ∷ ps) os e = absurd (cc)
none_asked (part.TypedArgs ∷ ps) os e = absurd (cc)
none_asked (_ ∷ ps) os e = none_asked ps os e
