-- The other value of a fault: 501 has the operand that uses the scope, and 504 the base that ends.
use Rattle.std.specs.Prelude.{List, Bool, true, false, ◌&&◌, ◌==◌, Option, None, cond, find, option_map}
use Rattle.sil_ast.specs.declared.function.Function.{Function}
use Rattle.sil_ast.specs.declared.place.ValueId.{ValueId}
use Rattle.sil_cfg.specs.declared.item.Item.{Item}
use Rattle.ownership_kinds_chains.specs.OwnershipChains.Facts.{has, is_guaranteed, known_or}
use Rattle.ownership_kinds_chains.specs.declared.ownership_chains.facts.Facts.{Facts}
use Rattle.sil_cfg_items.specs.Items.{item_taken}
use Rattle.sil_cfg_items.specs.declared.taken.Taken.{Taken}
use Rattle.sil_rules.specs.Rules.{index_of}
use Rattle.sil_rules.specs.declared.rule.Rule.{Rule}
use Rattle.sil_rules.specs.declared.rule.Rule.TheVariants as rule
use Rattle.ownership_kinds_chains.specs.OwnershipMarks.Marks.{marks_of}
use Rattle.ownership_kinds_chains.specs.declared.ownership_marks.mark.Mark.{Mark}
use Rattle.ownership_kinds_chains.specs.declared.ownership_marks.mark.MarkSort.{MarkSort}
use Rattle.ownership_kinds_chains.specs.declared.ownership_marks.mark.MarkSort.TheVariants.{End, Use, Begin}
use Rattle.borrow_scopes.specs.Scopes.{lent_bases}

-- the facts are of a Guaranteed value that has the scope among its bases
abbrev pub lies_in : Facts → ValueId → Bool
lies_in facts s = is_guaranteed facts.kind && has facts.bases s.0

abbrev pub taken_value : Taken → ValueId
taken_value t = t.value

-- the first operand of the item that lies in the scope
abbrev pub used_operand : (ValueId → Option Facts) → Function → ValueId → Item → Option ValueId
used_operand facts f s item = option_map taken_value (find (λ t. lies_in (known_or facts t.value) s) (item_taken f item))

abbrev pub is_end : MarkSort → Bool
is_end End = true
is_end Use = false
is_end Begin = false

-- the mark ends one of these values
abbrev pub ends_one : List ValueId → Mark → Bool
ends_one values m = is_end m.sort && has values m.subject.0

abbrev pub marked_value : Mark → ValueId
marked_value m = m.subject

-- the first value that the item ends of those from which the scope borrows
abbrev pub ended_base : (ValueId → Option Facts) → Function → ValueId → Item → Option ValueId
ended_base facts f s item = option_map marked_value (find (ends_one (lent_bases f (known_or facts) s.0)) (marks_of facts f item))

abbrev pub is_on_uses : Rule → Bool
is_on_uses r = index_of r == index_of rule.UseOutsideScope

abbrev pub is_on_bases : Rule → Bool
is_on_bases r = index_of r == index_of rule.ConsumedWhileBorrowed

-- the other value of a fault by this rule, at this item
abbrev pub other_of : Rule → (ValueId → Option Facts) → Function → ValueId → Item → Option ValueId
other_of r facts f s item = cond (is_on_uses r) (used_operand facts f s item) (cond (is_on_bases r) (ended_base facts f s item) None)
