-- What becomes of an instruction where a copy is lent: its operation alone, and that at the copy and at its destroys.
use Rattle.std.proofs.Common.{◌≡◌, refl, sym, ap, ◌∙◌, Bool, true, false, cond}
use Rattle.std.specs.Prelude.{◌&&◌, slice_get}
use Rattle.std.proofs.lemmas.Bool.{eqb-true}
use Rattle.std.proofs.lemmas.Option.{same_Some}
use Rattle.instruction_table.proofs.Numbers.{stands_at}
use Rattle.instruction_table.specs.Forms.{number_of}
use Rattle.instruction_table.specs.declared.op.Op.{Op}
use Rattle.instruction_table.specs.declared.op.Op.TheVariants as op
use Rattle.instruction_table.specs.declared.op.TheConstants.{OPS}
use Rattle.sil_ast.specs.declared.inst.Inst.{Inst}
use Rattle.sil_ast.specs.declared.place.ValueId.{ValueId}
use Rattle.copy_pairing_model.specs.Copies.{is_op}
use Rattle.copy_pairing_model.specs.Rewritten.{lent_inst, makes, takes, with_op}

same_op : (a b : Op) → number_of a ≡ number_of b → a ≡ b
same_op a b e = same_Some a b (sym (stands_at a) ∙ ap (slice_get OPS) e ∙ stands_at b)

pub op_is : (o : Op) (i : Inst) → is_op o i ≡ true → i.op ≡ o
op_is o i e = same_op i.op o (eqb-true (number_of i.op) (number_of o) e)

-- the three ways: the copy, a destroy of it, and any other instruction
pub data Becomes (c : ValueId) (i : Inst) : Inst → Type 0 where
  borrows : i.op ≡ op.CopyValue → makes c i ≡ true → Becomes c i (with_op op.BeginBorrow i)
  ends : i.op ≡ op.DestroyValue → takes c i ≡ true → Becomes c i (with_op op.EndBorrow i)
  stays : (is_op op.CopyValue i && makes c i) ≡ false → (is_op op.DestroyValue i && takes c i) ≡ false → Becomes c i i

both : (a b : Bool) → (a && b) ≡ true → (a ≡ true) × (b ≡ true)
both true b e = (refl, e)
both false b e = absurd (let wrong : false ≡ true = e in cc)

pub becomes : (c : ValueId) (i : Inst) → Becomes c i (lent_inst c i)
becomes c i = at (is_op op.CopyValue i && makes c i) refl (is_op op.DestroyValue i && takes c i) refl
  where
    at : (x : Bool) → (is_op op.CopyValue i && makes c i) ≡ x → (y : Bool) → (is_op op.DestroyValue i && takes c i) ≡ y
        → Becomes c i (cond x (with_op op.BeginBorrow i) (cond y (with_op op.EndBorrow i) i))
    at true e y h = let p = both (is_op op.CopyValue i) (makes c i) e in borrows (op_is op.CopyValue i p.0) p.1
    at false e true h = let p = both (is_op op.DestroyValue i) (takes c i) h in ends (op_is op.DestroyValue i p.0) p.1
    at false e false h = stays e h

-- the rest of the instruction stays
module _ {A : Type 0} (part : Inst → A) (kept : (o : Op) (i : Inst) → part (with_op o i) ≡ part i) where
  pub part_kept : (c : ValueId) (i : Inst) → part (lent_inst c i) ≡ part i
  part_kept c i = at (is_op op.CopyValue i && makes c i) (is_op op.DestroyValue i && takes c i)
    where
      at : (x y : Bool) → part (cond x (with_op op.BeginBorrow i) (cond y (with_op op.EndBorrow i) i)) ≡ part i
      at true y = kept op.BeginBorrow i
      at false true = kept op.EndBorrow i
      at false false = refl
