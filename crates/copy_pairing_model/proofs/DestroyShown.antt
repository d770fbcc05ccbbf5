-- A `destroy_value` of an Owned value has a mark of it.
use Rattle.std.proofs.Common.{◌≡◌, List, [], ◌∷◌, ◌++◌, length, refl, sym, ap, ap₂, ◌∙◌, true, false, Option, Some, None, eq-eqb, append-nil}
use Rattle.std.specs.Prelude.{◌||◌, ◌==◌, unwrap_or}
use Rattle.std.specs.List.{flat_map, list_any, slice_get}
use Rattle.std.proofs.lemmas.Bool.{eqb-true}
use Rattle.std.proofs.lemmas.Option.{same_Some}
use Rattle.instruction_table.proofs.Numbers.{stands_at}
use Rattle.instruction_table.specs.Forms.{number_of, roles_of}
use Rattle.instruction_table.specs.declared.op.Op.{Op}
use Rattle.instruction_table.specs.declared.op.Op.TheVariants as op
use Rattle.instruction_table.specs.declared.op.TheConstants.{OPS}
use Rattle.instruction_table.specs.declared.entries.Role.TheVariants as role
use Rattle.sil_ast.specs.declared.function.Function.{Function}
use Rattle.sil_ast.specs.declared.inst.Inst as inst
use Rattle.sil_ast.specs.declared.operands.Operand.{Operand}
use Rattle.sil_ast.specs.declared.place.PointId.{PointId}
use Rattle.sil_ast.specs.declared.place.ValueId.{ValueId}
use Rattle.sil_cfg.specs.declared.item.Item.TheVariants.{Inst}
use Rattle.sil_cfg_items.specs.Items.{item_defined, item_taken, taken_in}
use Rattle.sil_cfg_items.specs.Roles.{by_row, conventions_in, roles_for, taken_as, taken_by, taken_each}
use Rattle.sil_cfg_items.specs.declared.taken.Taken.{Taken}
use Rattle.ownership_kinds_origins.specs.ownership_kinds_chains.OwnershipChains.Facts.{facts_with, is_owned, known_or}
use Rattle.ownership_kinds_origins.specs.ownership_kinds_chains.declared.ownership_chains.facts.Facts.{Facts}
use Rattle.ownership_kinds_origins.specs.ownership_kinds_chains.OwnershipMarks.Marks.{begun, end_of, ended, ended_by, ended_with, marks_of, used}
use Rattle.ownership_kinds_origins.specs.ownership_kinds_chains.declared.ownership_marks.mark.Mark.{Mark}
use Rattle.ownership_kinds_origins.specs.ownership_kinds_chains.declared.ownership_marks.mark.MarkSort.TheVariants.{End}
use Rattle.sil_types_declarations.specs.declared.type_definitions.kind.Kind.{Kind}
use Rattle.sil_types_declarations.specs.declared.type_definitions.kind.Kind.TheVariants as kind
use Rattle.copy_pairing_model.specs.Copies.{Destroys, IsDestroy, is_op}
use Rattle.copy_pairing_model.specs.Removable.{concerns, is_mark}

-- two instructions with one number are the same
same_op : (a b : Op) → number_of a ≡ number_of b → a ≡ b
same_op a b e = same_Some a b (sym (stands_at a) ∙ ap (slice_get OPS) e ∙ stands_at b)

op_is : (o : Op) (i : inst.Inst) → is_op o i ≡ true → i.op ≡ o
op_is o i e = same_op i.op o (eqb-true (number_of i.op) (number_of o) e)

destroyed_taken : (i : inst.Inst) (v : ValueId) (h : Destroys i v) → taken_by i ≡ taken_as h.operand (by_row role.Consumed) ∷ []
destroyed_taken i v h = ap₂ (λ operands o. taken_each operands (roles_for (roles_of o) (conventions_in i) (length operands))) h.operands (op_is op.DestroyValue i h.destroys)

item_takes : (f : Function) (p : PointId) (v : ValueId) (h : IsDestroy f p v) → item_taken f (Inst p) ≡ taken_as h.destroys.operand (by_row role.Consumed) ∷ []
item_takes f p v h = ap (λ o. taken_in o ++ []) h.stands ∙ append-nil (taken_by h.inst) ∙ destroyed_taken h.inst v h.destroys

owned_kind : (k : Kind) (v : ValueId) → is_owned k ≡ true → ended_by k role.Consumed v ≡ end_of v ∷ []
owned_kind kind.Owned v e = refl
owned_kind kind.Guaranteed v e = absurd (let wrong : false ≡ true = e in cc)
owned_kind kind.Plain v e = absurd (let wrong : false ≡ true = e in cc)

owned_ended : (o : Option Facts) (x : Operand) → is_owned (unwrap_or o (facts_with kind.Plain [])).kind ≡ true → ended_with o (taken_as x (by_row role.Consumed)) ≡ end_of x.value ∷ []
owned_ended None x e = absurd (let wrong : false ≡ true = e in cc)
owned_ended (Some facts) x e = owned_kind facts.kind x.value e

pub destroy_shown : (facts : ValueId → Option Facts) (f : Function) (p : PointId) (c v : ValueId) → is_owned (known_or facts v).kind ≡ true → IsDestroy f p v
    → list_any (concerns c v) (marks_of facts f (Inst p)) ≡ true
destroy_shown facts f p c v owned h =
    let x = h.destroys.operand in
    let t : Taken = taken_as x (by_row role.Consumed) in
    let own : is_owned (known_or facts x.value).kind ≡ true = ap (λ w. is_owned (known_or facts w).kind) h.destroys.destroyed ∙ owned in
    let first : ended facts t ≡ end_of x.value ∷ [] = owned_ended (facts x.value) x own in
    let rest : List Mark = flat_map (used facts) (item_taken f (Inst p)) ++ flat_map (begun facts) (item_defined f (Inst p)) in
    let same : (x.value.0 == v.0) ≡ true = eq-eqb x.value.0 v.0 (ap (λ (w : ValueId). w.0) h.destroys.destroyed) in
    ap (λ ts. list_any (concerns c v) ((flat_map (ended facts) ts ++ flat_map (used facts) (item_taken f (Inst p))) ++ flat_map (begun facts) (item_defined f (Inst p)))) (item_takes f p v h)
    ∙ ap (λ ms. list_any (concerns c v) (((ms ++ []) ++ flat_map (used facts) (item_taken f (Inst p))) ++ flat_map (begun facts) (item_defined f (Inst p)))) first
    ∙ ap (λ b. (b || is_mark End (c ∷ []) (end_of x.value)) || list_any (concerns c v) rest) same
