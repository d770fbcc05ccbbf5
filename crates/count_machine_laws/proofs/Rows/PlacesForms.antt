-- What typing says of a store, by the shape of the place: a value is stored in a place without storage, or storage is given what it is to name.
use Rattle.std.proofs.Common.{◌≡◌, ◌∙◌, List, [], ◌∷◌, true, None, Some, refl, sym, ap, subst}
use Rattle.std.proofs.lemmas.Option.{none-some}
use Rattle.count_machine_model.specs.memory_rules_accesses.declared.access.Operation.{Operation}
use Rattle.count_machine_model.specs.memory_rules_accesses.declared.access.Operation.TheVariants as operation
use Rattle.count_machine_model.specs.holder_model.RunTyping.Forms.{Form, OfPlace, OfValue, has_no_storage}
use Rattle.count_machine_model.specs.holder_model.RunTyping.RowForms.{IsStoreOf, operation_done}
use Rattle.count_machine_model.specs.holder_model.RunTyping.StorageForms.{IsNamed}
use Rattle.holder_model_values.specs.RunValues.Shapes.{Shape, Stored, storage_in}
use Rattle.sil_ast.specs.declared.decl.Storage.{Storage}
use Rattle.sil_ast.specs.declared.inst.Inst.{Inst}
use Rattle.sil_ast.specs.declared.module.Module.{Module}
use Rattle.holder_model_values.proofs.ValueParts.Storages.{no_storage_in}
use Rattle.count_machine_laws.proofs.Rows.Forms.{StoreForms}
use Rattle.count_machine_laws.proofs.Rows.Gives.{same_head, same_tail}
use Rattle.count_machine_laws.proofs.Rows.Shapes.{same_place_form}

-- storage stores one shape

pub same_storage : (w v : Storage) (s t : Shape) → Stored w s ≡ Stored v t → w ≡ v
same_storage w v s t e = cc

pub same_stored : (w v : Storage) (s t : Shape) → Stored w s ≡ Stored v t → s ≡ t
same_stored w v s t e = cc

module _ (m : Module) (i : Inst) where
  pub record PlainStore (x : Form) (s : Shape) (outs : List Form) : Type 0 where
    pub operation : operation_done i ≡ Some operation.Write
    pub bare : has_no_storage s ≡ true
    pub value : x ≡ OfValue s
    pub none : outs ≡ []

  pub record NameStore (x : Form) (w : Storage) (s : Shape) (outs : List Form) : Type 0 where
    pub operation : Operation
    pub done : operation_done i ≡ Some operation
    pub stores : IsStoreOf operation
    pub named : IsNamed w s
    pub value : x ≡ OfValue s
    pub none : outs ≡ []

  module _ (x : Form) (s : Shape) where
    pub plain_store : {ins outs : List Form} → StoreForms m i ins outs → ins ≡ x ∷ OfPlace s ∷ [] → storage_in s ≡ None → PlainStore x s outs
    plain_store (StoreForms.plain t done bare) e none =
        let same : t ≡ s = same_place_form t s (same_head (OfPlace t) (OfPlace s) [] [] (same_tail (OfValue t) x (OfPlace t ∷ []) (OfPlace s ∷ []) e)) in
        record {
          operation = done;
          bare = subst (λ u. has_no_storage u ≡ true) same bare;
          value = sym (same_head (OfValue t) x (OfPlace t ∷ []) (OfPlace s ∷ []) e) ∙ ap OfValue same;
          none = refl;
        }
    plain_store (StoreForms.named w t o is done stores) e none =
        let same = same_place_form (Stored w t) s (same_head (OfPlace (Stored w t)) (OfPlace s) [] [] (same_tail (OfValue t) x (OfPlace (Stored w t) ∷ []) (OfPlace s ∷ []) e)) in
        absurd (none-some w (sym none ∙ ap storage_in (sym same)))

  module _ (x : Form) (w : Storage) (s : Shape) where
    pub name_store : {ins outs : List Form} → StoreForms m i ins outs → ins ≡ x ∷ OfPlace (Stored w s) ∷ [] → NameStore x w s outs
    name_store (StoreForms.plain t done bare) e =
        let same = same_place_form t (Stored w s) (same_head (OfPlace t) (OfPlace (Stored w s)) [] [] (same_tail (OfValue t) x (OfPlace t ∷ []) (OfPlace (Stored w s) ∷ []) e)) in
        absurd (none-some w (sym (no_storage_in t bare) ∙ ap storage_in same))
    name_store (StoreForms.named v t o is done stores) e =
        let last = same_tail (OfValue t) x (OfPlace (Stored v t) ∷ []) (OfPlace (Stored w s) ∷ []) e in
        let same = same_place_form (Stored v t) (Stored w s) (same_head (OfPlace (Stored v t)) (OfPlace (Stored w s)) [] [] last) in
        let inner = same_stored v w t s same in
        record {
          operation = o;
          done = done;
          stores = stores;
          named = subst (λ u. IsNamed u s) (same_storage v w t s same) (subst (IsNamed v) inner is);
          value = sym (same_head (OfValue t) x (OfPlace (Stored v t) ∷ []) (OfPlace (Stored w s) ∷ []) e) ∙ ap OfValue inner;
          none = refl;
        }
