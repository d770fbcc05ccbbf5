-- What an instruction and what stands at a point say of copies and destroys.
use Rattle.std.proofs.Common.{◌≡◌, [], ◌∷◌, refl, sym, ◌∙◌, subst, Bool, true, false, Option, Some, None}
use Rattle.std.specs.Prelude.{◌↔◌, IfNone, IfSome, IsTrue}
use Rattle.std.proofs.lemmas.Option.{same_Some}
use Rattle.instruction_table.specs.declared.op.Op.TheVariants as op
use Rattle.sil_ast.specs.declared.function.Function.{Function}
use Rattle.sil_ast.specs.declared.inst.Inst.{Inst}
use Rattle.sil_ast.specs.declared.operands.Operand.{Operand}
use Rattle.sil_ast.specs.declared.place.PointId.{PointId}
use Rattle.sil_ast.specs.declared.place.ValueId.{ValueId}
use Rattle.sil_cfg_items.specs.Parts.{inst_at}
use Rattle.copy_pairing_model.specs.Copies.{Copies, Destroys, IsCopy, IsDestroy, is_op}
use Rattle.copy_pairing_search.specs.declared.borrowable_copies.copies.Copied.{Copied}

-- copies

pub copies : (i : Inst) (c : ValueId) (o : Operand) → is_op op.CopyValue i ≡ true → i.results ≡ c ∷ [] → i.operands ≡ o ∷ [] → Copies i c o.value
copies i c o so result operands = record { copies = so; result = result; operand = o; operands = operands; copied = refl }

pub copy_stands : (f : Function) (p : PointId) (i : Inst) (o : Option Copied) → Some i ≡ inst_at f p → IfSome o (λ x. Copies i x.value x.operand) → IfSome o (λ x. IsCopy f p x.value x.operand)
copy_stands f p i None e h = tt
copy_stands f p i (Some x) e h = record { inst = i; stands = sym e; copies = h }

pub none_stands : (f : Function) (p : PointId) (i : Inst) (o : Option Copied) → Some i ≡ inst_at f p → IfNone o ((c v : ValueId) → Copies i c v → ⊥) → IfNone o ((c v : ValueId) → IsCopy f p c v → ⊥)
none_stands f p i None e none = λ c v h. none c v (subst (λ x. Copies x c v) (same_Some h.inst i (sym h.stands ∙ sym e)) h.copies)
none_stands f p i (Some x) e none = tt

pub nothing_stands : (f : Function) (p : PointId) → None ≡ inst_at f p → (c v : ValueId) → IsCopy f p c v → ⊥
nothing_stands f p e c v h = let wrong : None ≡ Some h.inst = e ∙ h.stands in cc

-- destroys

pub not_destroy : (i : Inst) (v : ValueId) → is_op op.DestroyValue i ≡ false → IsTrue false ↔ Destroys i v
not_destroy i v not_so = (
  λ t. absurd (let wrong : false ≡ true = t in cc),
  λ h. absurd (let wrong : true ≡ false = sym h.destroys ∙ not_so in cc),
)

pub destroyed_at : (f : Function) (p : PointId) (v : ValueId) (i : Inst) (r : Bool) → Some i ≡ inst_at f p → IsTrue r ↔ Destroys i v → IsTrue r ↔ IsDestroy f p v
destroyed_at f p v i r e h = (
  λ t. record { inst = i; stands = sym e; destroys = h.0 t },
  λ d. h.1 (subst (λ x. Destroys x v) (same_Some d.inst i (sym d.stands ∙ sym e)) d.destroys),
)

pub nothing_destroyed : (f : Function) (p : PointId) (v : ValueId) → None ≡ inst_at f p → IsTrue false ↔ IsDestroy f p v
nothing_destroyed f p v e = (λ t. absurd (let wrong : false ≡ true = t in cc), λ d. absurd (let wrong : None ≡ Some d.inst = e ∙ d.stands in cc))
