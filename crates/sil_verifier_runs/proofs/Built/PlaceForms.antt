-- The address of a field, or of what lies in one, has the form of a place: no value is at it.
use Rattle.std.proofs.Common.{◌≡◌, ℕ, zero, suc, List, [], ◌∷◌, ◌++◌, append-nil, length, refl, sym, ap, ◌∙◌, subst, Bool, true, false, Option, Some, None}
use Rattle.std.specs.Prelude.{Contains, option_map, slice_get}
use Rattle.std.proofs.lemmas.Bool.{false≢true}
use Rattle.std.proofs.lemmas.Option.{none-some, same_Some, slice_get-map}
use Rattle.instruction_table.specs.declared.op.Op.{Op}
use Rattle.instruction_table.specs.declared.op.Op.TheVariants as op
use Rattle.sil_verifier_frames.specs.sil_verifier_trails.AcceptedTrails.inner.Defined.{IsDefinedOn, makes}
use Rattle.sil_verifier_frames.specs.holder_model.Effects.{effect_of}
use Rattle.sil_verifier_frames.specs.holder_model.declared.row_effect.RowEffect.{RowEffect}
use Rattle.sil_verifier_frames.specs.holder_model.declared.row_effect.RowEffect.TheVariants as row
use Rattle.sil_verifier_frames.specs.memory_rules_accesses.Operations.{access_kind_of}
use Rattle.sil_verifier_frames.specs.memory_rules_accesses.Locations.{locate, located_by}
use Rattle.sil_verifier_frames.specs.memory_rules_accesses.Sources.{borrow_source, result_source, source_at, source_by, sources_of, upcast_source}
use Rattle.sil_verifier_frames.specs.memory_rules_accesses.declared.columns.AccessKind.TheVariants as access
use Rattle.sil_verifier_frames.specs.memory_rules_accesses.declared.location.Location.{Location}
use Rattle.sil_verifier_frames.specs.memory_rules_accesses.declared.source.Source.{Source}
use Rattle.sil_verifier_frames.specs.sil_verifier_trails.RunTrails.inner.RunTrails.{IsTurnedTrail}
use Rattle.sil_verifier_frames.proofs.sil_verifier_trails.AcceptedTrails.Tests.{picked}
use Rattle.sil_verifier_frames.proofs.sil_verifier_trails.RunTrails.TurnedTrails.{are_of_items}
use Rattle.sil_verifier_frames.proofs.sil_verifier_trails.AcceptedPlaces.Fields.{has_among}
use Rattle.sil_verifier_frames.proofs.sil_verifier_trails.AcceptedPlaces.Made.{results_so}
use Rattle.sil_verifier_frames.proofs.sil_verifier_trails.AcceptedPlaces.PartsThere.{each_where_among}
use Rattle.sil_verifier_frames.specs.sil_verifier_trails.AcceptedPlaces.inner.Located.{IsAddress}
use Rattle.sil_verifier_frames.specs.sil_verifier_values.inner.Known.{IsAcceptedBody}
use Rattle.sil_verifier_frames.specs.holder_model.RunTyping.Forms.{Form, OfPlace, OfValue, form_of, forms_of}
use Rattle.sil_verifier_frames.proofs.sil_verifier_values.Accepted.{in_ownership_form, well_typed}
use Rattle.sil_verifier_frames.proofs.sil_verifier_values.Counted.{stands}
use Rattle.sil_verifier_frames.specs.holder_model_laws.HolderLaws.inner.Built.Building.{IsFieldAddress}
use Rattle.sil_cfg_items.specs.Items.{item_defined}
use Rattle.sil_cfg_items.specs.Parts.{inst_at, results_in}
use Rattle.sil_verifier_frames.specs.holder_model_typing.OwnedRunTyping.inner.OwnedRows.{OwnedRowForms}
use Rattle.sil_verifier_frames.proofs.holder_model_typing.OwnedRunTyping.OwnedInsts.{owned_inst}
use Rattle.sil_verifier_frames.specs.ownership_kinds_chains.OwnershipChains.Facts.{has}
use Rattle.numbered_form.proofs.PointChecks.Among.{contained_among}
use Rattle.holder_model_values.specs.RunValues.Shapes.{Shape}
use Rattle.sil_ast.specs.declared.function.Function.{Function}
use Rattle.sil_ast.specs.declared.inst.Inst.{Inst}
use Rattle.sil_ast.specs.declared.module.Module.{Module}
use Rattle.sil_ast.specs.declared.place.PointId.{PointId}
use Rattle.sil_ast.specs.declared.place.ValueId.{ValueId}
use Rattle.sil_cfg.specs.Items.{IsItem}
use Rattle.sil_cfg.specs.declared.item.Item.{Item}
use Rattle.sil_cfg.specs.declared.item.Item.TheVariants as item
use Rattle.sil_types_declarations.specs.TypeDefinitions.Declarations.{Declarations, declarations_of}
use Rattle.numbered_form.specs.ValueTables.FirstValue.{first_value}
use Rattle.sil_verifier_runs.proofs.Built.Apart.{edge_apart, entry_apart, keeps_apart, made_apart}
use Rattle.sil_verifier_runs.proofs.Built.RowsSay.{OnePlace, Says, row_says}

-- ---- rows

-- the row's result is a value that goes by its operand, or an address
abbrev pub is_handing : RowEffect → Bool
is_handing row.GivesOperand = true
is_handing row.AddressesMember = true
is_handing row.AddressesField = true
is_handing _ = false

abbrev pub gives_place : RowEffect → Bool
gives_place row.AddressesMember = true
gives_place row.AddressesField = true
gives_place _ = false

-- what such a row gives has the form of a place
one_place : (m : Module) (x : Inst) → gives_place (effect_of x.op) ≡ true → (xs ys : List Form) → OwnedRowForms m x xs ys → OnePlace ys
one_place m x gives xs ys r = by (effect_of x.op) gives (row_says m x xs ys r)
  where
    by : (e : RowEffect) → gives_place e ≡ true → Says e xs ys → OnePlace ys
    by row.AddressesMember h says = says
    by row.AddressesField h says = says
    by _ h says = absurd (false≢true h)

-- the row keeps its results apart, hands an object on, or gives the address of a place
data HowRow (o : Op) : Type 0 where
  apart : keeps_apart (access_kind_of o) ≡ true → HowRow o
  lends : access_kind_of o ≡ access.LendsValue → HowRow o
  upcasts : access_kind_of o ≡ access.Upcasts → HowRow o
  names : gives_place (effect_of o) ≡ true → HowRow o

how_row : (o : Op) → HowRow o
how_row op.BeginBorrow = lends refl
how_row op.Upcast = upcasts refl
how_row op.RefElementAddr = names refl
how_row op.StructElementAddr = names refl
how_row op.TupleElementAddr = names refl
how_row _ = apart refl

borrow_nowhere : (v : ValueId) (o : Option ValueId) (others : ValueId → Option Location) → located_by others v (borrow_source o) ≡ None
borrow_nowhere v None others = refl
borrow_nowhere v (Some w) others = refl

upcast_nowhere : (v : ValueId) (o : Option ValueId) (others : ValueId → Option Location) → located_by others v (upcast_source o) ≡ None
upcast_nowhere v None others = refl
upcast_nowhere v (Some w) others = refl

-- the only form among one
only_form : (form s : Form) (k : ℕ) → slice_get (s ∷ []) k ≡ Some form → form ≡ s
only_form form s zero e = sym (same_Some s form e)
only_form form s (suc k) e = absurd (none-some form e)

-- ---- values

module _ (m : Module) (n : ℕ) (f : Function) (a : IsAcceptedBody m n f) where
  abbrev d : Declarations
  d = declarations_of m

  abbrev sources : List Source
  sources = sources_of d f

  unlocated : (v : ValueId) (l : Location) (s : Source) (j : ℕ) → source_at sources v ≡ s → ((others : ValueId → Option Location) → located_by others v s ≡ None)
      → locate sources j v ≡ Some l → ⊥
  unlocated v l s zero is none e = none-some l e
  unlocated v l s (suc j) is none e = none-some l (sym (none (locate sources j)) ∙ sym (ap (located_by (locate sources j) v) is) ∙ e)

  -- a result has the source of its instruction's row
  pub made_row : (p : PointId) (x : Inst) → inst_at f p ≡ Some x → (v : ValueId) → makes f v (item.Inst p) ≡ true → source_at sources v ≡ result_source d x
  made_row p x is v made =
      each_where_among (λ w. source_at sources w ≡ result_source d x) (item_defined f (item.Inst p)) v (results_so m n f a p x is)
      (has_among (item_defined f (item.Inst p)) v made)

  -- what the row makes is an address
  pub result_place : (p : PointId) (x : Inst) → inst_at f p ≡ Some x → gives_place (effect_of x.op) ≡ true → (v : ValueId) → makes f v (item.Inst p) ≡ true → IsAddress d f v
  result_place p x is gives v made =
      let among : Contains x.results v =
      subst (λ vs. Contains vs v) (ap (λ o. results_in o ++ []) is ∙ append-nil x.results)
      (contained_among v (item_defined f (item.Inst p)) (has_among (item_defined f (item.Inst p)) v made)) in
      let s = stands x.results v among in
      let place = one_place m x gives _ _ (owned_inst m (well_typed m a.verified) n f a.body.there p x is (in_ownership_form m n f a)).row in
      let form : slice_get (forms_of d f x.results) s.0 ≡ Some (form_of d f v) = slice_get-map (form_of d f) x.results s.0 ∙ ap (option_map (form_of d f)) s.1 in
      record { shape = place.0; is = only_form (form_of d f v) (OfPlace place.0) s.0 (ap (λ ys. slice_get ys s.0) (sym place.1) ∙ form) }

  module _ (v : ValueId) (l : Location) (of : ValueId) (k : ℕ) (at : IsFieldAddress sources v l of k) where
    at_row : (p : PointId) (x : Inst) → inst_at f p ≡ Some x → makes f v (item.Inst p) ≡ true → HowRow x.op → IsAddress d f v
    at_row p x is made (apart keeps) =
        absurd ((made_apart m n f a (item.Inst p) v made
        (λ y so. subst (λ (z : Inst). keeps_apart (access_kind_of z.op) ≡ true) (same_Some x y (sym is ∙ so)) keeps)).address l of k at)
    at_row p x is made (lends e) =
        absurd (unlocated v l (borrow_source (first_value x)) (length sources) (made_row p x is v made ∙ ap (λ q. source_by q d x) e)
        (borrow_nowhere v (first_value x)) at.at)
    at_row p x is made (upcasts e) =
        absurd (unlocated v l (upcast_source (first_value x)) (length sources) (made_row p x is v made ∙ ap (λ q. source_by q d x) e)
        (upcast_nowhere v (first_value x)) at.at)
    at_row p x is made (names gives) = result_place p x is gives v made

    made_at : (p : PointId) (o : Option Inst) → inst_at f p ≡ o → makes f v (item.Inst p) ≡ true → IsAddress d f v
    made_at p None is made = absurd (false≢true (sym (ap (λ o. has (results_in o ++ []) v.0) is) ∙ made))
    made_at p (Some x) is made = at_row p x is made (how_row x.op)

    pub made_field : (i : Item) → makes f v i ≡ true → IsAddress d f v
    made_field item.Entry made = absurd ((made_apart m n f a item.Entry v made (entry_apart m n f a)).address l of k at)
    made_field (item.Inst p) made = made_at p (inst_at f p) refl made
    made_field (item.Edge e) made = absurd ((made_apart m n f a (item.Edge e) v made (edge_apart m n f a e)).address l of k at)
    made_field (item.Exit p) made = absurd (false≢true made)

    -- so is it once an item of a trail has made it
    pub field_place : (t : List Item) → IsTurnedTrail f t → IsDefinedOn f t v → IsAddress d f v
    field_place t h made = let i = picked (makes f v) (IsItem f) t (are_of_items f t h) made in made_field i.0 i.1

  -- and a value of another form is no such address
  pub no_field_address : (t : List Item) → IsTurnedTrail f t → (v : ValueId) → IsDefinedOn f t v → (s : Shape) → form_of d f v ≡ OfValue s
      → (l : Location) (of : ValueId) (k : ℕ) → IsFieldAddress sources v l of k → ⊥
  no_field_address t h v made s value l of k at = let place = field_place v l of k at t h made in let two : OfPlace place.shape ≡ OfValue s = sym place.is ∙ value in cc
