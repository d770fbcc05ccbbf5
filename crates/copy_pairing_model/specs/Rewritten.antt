-- What a function becomes where a copy goes. No value is defined anew or goes, so all values keep their numbers.
use Rattle.std.specs.Prelude.{ℕ, zero, suc, List, [], ◌∷◌, Bool, ◌&&◌, ◌==◌, cond, map, remove}
use Rattle.std.specs.List.{list_any}
use Rattle.instruction_table.specs.declared.op.Op.{Op}
use Rattle.instruction_table.specs.declared.op.Op.TheVariants as op
use Rattle.sil_ast.specs.declared.function.Block.{Block}
use Rattle.sil_ast.specs.declared.function.Function.{Function}
use Rattle.sil_ast.specs.declared.inst.Inst.{Inst}
use Rattle.sil_ast.specs.declared.module.Module.{Module}
use Rattle.sil_ast.specs.declared.place.PointId.{PointId}
use Rattle.sil_ast.specs.declared.place.ValueId.{ValueId}
use Rattle.ownership_kinds_origins.specs.ownership_kinds_chains.OwnershipChains.Facts.{has}
use Rattle.copy_pairing_model.specs.Copies.{is_op}

abbrev pub with_op : Op → Inst → Inst
with_op o i = record i { op = o }

-- the element at a place changed
abbrev pub changed_at : {A : Type 0} → ℕ → (A → A) → List A → List A
changed_at n change [] = []
changed_at zero change (x ∷ xs) = change x ∷ xs
changed_at (suc n) change (x ∷ xs) = x ∷ changed_at n change xs

-- as a borrow: the copy c becomes a `begin_borrow` without flags, and each `destroy_value` of c an `end_borrow`

abbrev pub makes : ValueId → Inst → Bool
makes c i = has i.results c.0

abbrev pub takes : ValueId → Inst → Bool
takes c i = list_any (λ o. o.value.0 == c.0) i.operands

abbrev pub lent_inst : ValueId → Inst → Inst
lent_inst c i =
    cond (is_op op.CopyValue i && makes c i) (with_op op.BeginBorrow i) (cond (is_op op.DestroyValue i && takes c i) (with_op op.EndBorrow i) i)

abbrev pub lent_block : ValueId → Block → Block
lent_block c b = record b { insts = map (lent_inst c) b.insts }

abbrev pub lent : ValueId → Function → Function
lent c f = record f { blocks = map (lent_block c) f.blocks }

-- as a move: the copy at the point becomes a `move_value` without flags, and the instruction with a later index of its block goes

abbrev pub moved_block : ℕ → ℕ → Block → Block
moved_block index last b = record b { insts = remove (changed_at index (with_op op.MoveValue) b.insts) last }

abbrev pub moved : PointId → ℕ → Function → Function
moved p last f = record f { blocks = changed_at p.block.0 (moved_block p.index last) f.blocks }

-- the module with one of its functions changed. All its other parts stay
abbrev pub with_function : ℕ → (Function → Function) → Module → Module
with_function n change m = record m { functions = changed_at n change m.functions }
