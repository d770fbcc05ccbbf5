-- What an instruction hands on from its one operand: an object by a borrow or an upcast of it, the address of a field, or that of a member.
use Rattle.std.proofs.Common.{◌≡◌, inl, inr, ℕ, List, [], ◌∷◌, map, refl, sym, ap, ◌∙◌, subst, Bool, true, false, Some}
use Rattle.std.specs.Prelude.{Contains, ◌||◌, option_map, slice_get}
use Rattle.std.specs.List.{list_any}
use Rattle.std.proofs.lemmas.Bool.{false≢true, true≢false}
use Rattle.std.proofs.lemmas.Option.{same_Some}
use Rattle.instruction_table.specs.Forms.{detail_of}
use Rattle.instruction_table.specs.declared.entries.Detail.TheVariants as detail
use Rattle.instruction_table.specs.declared.op.Op.{Op}
use Rattle.instruction_table.specs.declared.op.Op.TheVariants as op
use Rattle.sil_verifier_frames.specs.sil_verifier_trails.AcceptedTrails.inner.Defined.{IsDefinedOn, makes}
use Rattle.sil_verifier_frames.specs.holder_model.Effects.{effect_of, part_number, part_number_by}
use Rattle.sil_verifier_frames.specs.holder_model.declared.row_effect.RowEffect.{RowEffect}
use Rattle.sil_verifier_frames.specs.holder_model.declared.row_effect.RowEffect.TheVariants as row
use Rattle.sil_verifier_frames.specs.memory_rules_accesses.Accesses.{allowance_of}
use Rattle.sil_verifier_frames.specs.memory_rules_accesses.Locations.{extended, is_object, whole}
use Rattle.sil_verifier_frames.specs.memory_rules_accesses.Operations.{access_kind_of, deallocates_by}
use Rattle.sil_verifier_frames.specs.memory_rules_accesses.Sources as memory_accesses
use Rattle.sil_verifier_frames.specs.memory_rules_accesses.Sources.{borrow_source, result_source, source_at, source_by, sources_of, upcast_source}
use Rattle.sil_verifier_frames.specs.memory_rules_accesses.declared.columns.AccessKind.TheVariants as access
use Rattle.sil_verifier_frames.specs.memory_rules_accesses.declared.location.Location.{Location}
use Rattle.sil_verifier_frames.specs.memory_rules_accesses.declared.source.Source.{Source}
use Rattle.sil_verifier_frames.specs.memory_rules_accesses.declared.source.Source.TheVariants as source
use Rattle.sil_verifier_frames.specs.memory_rules_parts.Building.{builds, takes_borrow, takes_object}
use Rattle.sil_verifier_frames.specs.sil_verifier_trails.RunTrails.inner.RunTrails.{IsRunTrail, IsTurnedTrail}
use Rattle.sil_verifier_frames.proofs.sil_verifier_trails.RunTrails.RunPaths.{are_trails}
use Rattle.sil_verifier_frames.proofs.sil_verifier_trails.AcceptedPlaces.ItemStacks.{accepted_in}
use Rattle.sil_verifier_frames.proofs.sil_verifier_trails.AcceptedPlaces.Locating.{members_located, root_location}
use Rattle.sil_verifier_frames.specs.sil_verifier_trails.AcceptedPlaces.inner.Located.{IsRoot}
use Rattle.sil_verifier_frames.specs.sil_verifier_trails.AcceptedPlaces.inner.Located as located
use Rattle.sil_verifier_frames.specs.sil_verifier_values.inner.Known.{IsAcceptedBody}
use Rattle.sil_verifier_frames.specs.holder_model.RunTyping.EndForms.{value_in}
use Rattle.sil_verifier_frames.proofs.sil_verifier_values.Accepted.{in_ownership_form, well_typed}
use Rattle.sil_verifier_frames.specs.holder_model_laws.HolderLaws.inner.Built.Building.{IsAbout, IsFieldAddress, address, borrow, itself}
use Rattle.sil_verifier_frames.specs.holder_model_laws.HolderLaws.inner.Built.Laws.{GoesOn}
use Rattle.sil_cfg_items.specs.Items.{item_taken}
use Rattle.sil_cfg_items.specs.Parts.{inst_at}
use Rattle.sil_cfg_items.specs.declared.taken.Taken.{Taken}
use Rattle.sil_verifier_frames.proofs.holder_model_typing.OwnedRunTyping.OwnedInsts.{owned_inst}
use Rattle.numbered_form.proofs.PointChecks.Among.{Among, among_contained, contained_among}
use Rattle.sil_ast.specs.declared.function.Function.{Function}
use Rattle.sil_ast.specs.declared.inst.Inst.{Inst}
use Rattle.sil_ast.specs.declared.module.Module.{Module}
use Rattle.sil_ast.specs.declared.operands.Operand.{Operand}
use Rattle.sil_ast.specs.declared.place.PointId.{PointId}
use Rattle.sil_ast.specs.declared.place.ValueId.{ValueId}
use Rattle.sil_cfg.specs.declared.item.Item.{Item}
use Rattle.sil_cfg.specs.declared.item.Item.TheVariants as item
use Rattle.sil_types_declarations.specs.TypeDefinitions.Declarations.{Declarations, declarations_of}
use Rattle.numbered_form.specs.ValueTables.FirstValue.{first_value}
use Rattle.sil_verifier_runs.specs.inner.Built.About.{IsAboutTaken}
use Rattle.sil_verifier_runs.specs.inner.Built.Said.{IsUnfinishedOn, said_in}
use Rattle.sil_verifier_runs.proofs.Built.About.{about_as_made, are_about_taken}
use Rattle.sil_verifier_runs.proofs.Built.Apart.{keeps_apart}
use Rattle.sil_verifier_runs.proofs.Built.Operands.{unfinished_operands}
use Rattle.sil_verifier_runs.proofs.Built.PlaceForms.{gives_place, made_row, result_place}
use Rattle.sil_verifier_runs.proofs.Built.Upcasts.{borrow_builds, upcast_builds}

-- ---- rows

-- the row takes no unfinished object, and no building borrow of one
pub record TakesWhole (o : Op) : Type 0 where
  pub keeps : deallocates_by (access_kind_of o) ≡ false
  pub object : takes_object (allowance_of o) ≡ false
  pub borrow : takes_borrow (allowance_of o) ≡ false

-- the row hands on its operand as it is
pub data GivesOn (o : Op) : Type 0 where
  moves : keeps_apart (access_kind_of o) ≡ true → TakesWhole o → GivesOn o
  lends : access_kind_of o ≡ access.LendsValue → takes_borrow (allowance_of o) ≡ false → GivesOn o
  upcasts : access_kind_of o ≡ access.Upcasts → takes_object (allowance_of o) ≡ false → GivesOn o

abbrev gives_operand : RowEffect → Bool
gives_operand row.GivesOperand = true
gives_operand _ = false

gives_on_by : (o : Op) → gives_operand (effect_of o) ≡ true → GivesOn o
gives_on_by op.MoveValue e = moves refl (record { keeps = refl; object = refl; borrow = refl })
gives_on_by op.BeginBorrow e = lends refl refl
gives_on_by op.Upcast e = upcasts refl refl
gives_on_by _ e = absurd (false≢true e)

pub gives_on : (o : Op) → effect_of o ≡ row.GivesOperand → GivesOn o
gives_on o e = gives_on_by o (ap gives_operand e)

-- the row names the field of the object that its operand names
pub record NamesField (o : Op) : Type 0 where
  pub kind : access_kind_of o ≡ access.NamesField
  pub detail : detail_of o ≡ detail.Field
  pub object : takes_object (allowance_of o) ≡ false

abbrev addresses_field : RowEffect → Bool
addresses_field row.AddressesField = true
addresses_field _ = false

names_field_by : (o : Op) → addresses_field (effect_of o) ≡ true → NamesField o
names_field_by op.RefElementAddr e = record { kind = refl; detail = refl; object = refl }
names_field_by _ e = absurd (false≢true e)

pub names_field : (o : Op) → effect_of o ≡ row.AddressesField → NamesField o
names_field o e = names_field_by o (ap addresses_field e)

-- the row names a member of what is at its operand
pub data NamesMember (o : Op) : Type 0 where
  by_member : access_kind_of o ≡ access.NamesMember → detail_of o ≡ detail.Field → NamesMember o
  by_element : access_kind_of o ≡ access.NamesElement → detail_of o ≡ detail.Element → NamesMember o

abbrev addresses_member : RowEffect → Bool
addresses_member row.AddressesMember = true
addresses_member _ = false

names_member_by : (o : Op) → addresses_member (effect_of o) ≡ true → NamesMember o × TakesWhole o
names_member_by op.StructElementAddr e = (by_member refl refl, record { keeps = refl; object = refl; borrow = refl })
names_member_by op.TupleElementAddr e = (by_element refl refl, record { keeps = refl; object = refl; borrow = refl })
names_member_by _ e = absurd (false≢true e)

pub names_member : (o : Op) → effect_of o ≡ row.AddressesMember → NamesMember o × TakesWhole o
names_member o e = names_member_by o (ap addresses_member e)

-- ---- what the number of a row names

module _ (d : Declarations) (x : Inst) (j : ℕ) (number : part_number d x ≡ Some j) where
  by_its_member : detail_of x.op ≡ detail.Field → memory_accesses.member_place d x.member ≡ Some j
  by_its_member e = sym (ap (λ k. part_number_by k d x) e) ∙ number

  by_its_element : detail_of x.op ≡ detail.Element → memory_accesses.element_place x.number ≡ Some j
  by_its_element e = sym (ap (λ k. part_number_by k d x) e) ∙ number

  module _ (of : ValueId) (first : first_value x ≡ Some of) where
    pub part_source_is : NamesMember x.op → result_source d x ≡ source.Part of j
    part_source_is (by_member k e) =
        ap (λ q. source_by q d x) k ∙ ap (λ o. memory_accesses.part_source o (memory_accesses.member_place d x.member)) first
        ∙ ap (memory_accesses.part_source (Some of)) (by_its_member e)
    part_source_is (by_element k e) =
        ap (λ q. source_by q d x) k ∙ ap (λ o. memory_accesses.part_source o (memory_accesses.element_place x.number)) first
        ∙ ap (memory_accesses.part_source (Some of)) (by_its_element e)

    pub field_source_is : NamesField x.op → result_source d x ≡ source.Field of j (memory_accesses.is_trivial_member d x.member)
    field_source_is names =
        ap (λ q. source_by q d x) names.kind
        ∙ ap (λ o. memory_accesses.field_source o (memory_accesses.member_place d x.member) (memory_accesses.is_trivial_member d x.member)) first
        ∙ ap (λ k. memory_accesses.field_source (Some of) k (memory_accesses.is_trivial_member d x.member)) (by_its_member names.detail)

-- ---- an instruction with one operand

module _ (m : Module) (n : ℕ) (f : Function) (a : IsAcceptedBody m n f) (t : List Item) (p : PointId)
    (h : IsRunTrail f (item.Inst p ∷ t)) (x : Inst) (is : inst_at f p ≡ Some x) (y : Taken) (alone : item_taken f (item.Inst p) ≡ y ∷ []) where
  abbrev d : Declarations
  d = declarations_of m

  abbrev sources : List Source
  sources = sources_of d f

  turned : IsTurnedTrail f (item.Inst p ∷ t)
  turned = are_trails f (accepted_in m n f a).once (item.Inst p ∷ t) h

  among : Contains (item_taken f (item.Inst p)) y
  among = subst (λ ys. Contains ys y) (sym alone) (contained_among y (y ∷ []) (inl refl))

  only : (z : Taken) → Contains (item_taken f (item.Inst p)) z → z ≡ y
  only z c = by (among_contained z (y ∷ []) (subst (λ ys. Contains ys z) alone c))
    where
      by : Among z (y ∷ []) → z ≡ y
      by (inl same) = same
      by (inr more) = absurd more

  -- its value is that of the first operand
  pub first_is : first_value x ≡ Some y.value
  first_is =
      of_first x.operands
      (ap (map (λ (t : Taken). t.value)) (sym alone) ∙ (owned_inst m (well_typed m a.verified) n f a.body.there p x is (in_ownership_form m n f a)).takes)
    where
      of_first : (os : List Operand) → y.value ∷ [] ≡ map value_in os → option_map (λ (o : Operand). o.value) (slice_get os 0) ≡ Some y.value
      of_first [] e = cc
      of_first (o ∷ os) e = let same : y.value ≡ o.value = cc in ap (λ w. Some w) (sym same)

  allowed : (object : ValueId) → IsUnfinishedOn d f t object → deallocates_by (access_kind_of x.op) ≡ false
      → (y.value ≡ object → takes_object (allowance_of x.op) ≡ true) × (builds sources object y.value ≡ true → takes_borrow (allowance_of x.op) ≡ true)
  allowed object un keeps = unfinished_operands m n f a t (item.Inst p) h x is keeps y among object un

  module _ (v : ValueId) (made : makes f v (item.Inst p) ≡ true) where
    defined : IsDefinedOn f (item.Inst p ∷ t) v
    defined = ap (λ b. b || list_any (makes f v) t) made

    source_is : source_at sources v ≡ result_source d x
    source_is = made_row m n f a p x is v made

    -- what the result is about, the operand is about
    about : (object : ValueId) → (v ≡ object → ⊥) → IsAbout sources object v → IsAbout sources object y.value × ((said_in d f t).as_made object y.value ≡ true)
    about object differ its = by (are_about_taken m n f a (item.Inst p) object v made its)
      where
        by : IsAboutTaken d f (item.Inst p) object v → IsAbout sources object y.value × ((said_in d f t).as_made object y.value ≡ true)
        by (inl same) = absurd (differ same)
        by (inr (z, c, own)) =
            let mine = subst (λ (w : Taken). IsAbout sources object w.value) (only z c) own in
            (mine, (about_as_made m n f a t (item.Inst p) h y among object mine).since)

    -- a borrow
    module _ (kind : access_kind_of x.op ≡ access.LendsValue) (none : takes_borrow (allowance_of x.op) ≡ false)
        (no_address : (l : Location) (of : ValueId) (k : ℕ) → IsFieldAddress sources y.value l of k → ⊥) where
      borrow_is : source_at sources v ≡ source.Borrow y.value
      borrow_is = source_is ∙ ap (λ k. source_by k d x) kind ∙ ap borrow_source first_is

      borrow_back : (object : ValueId) → IsUnfinishedOn d f t object → IsAbout sources object y.value → IsAbout sources object v
      borrow_back object un (itself same) =
          borrow (borrow_builds sources object v (ap is_object un.of.is) (borrow_is ∙ ap (λ w. source.Borrow w) same))
      borrow_back object un (borrow built) =
          absurd (true≢false (sym ((allowed object un (ap deallocates_by kind)).1 built) ∙ none))
      borrow_back object un (address l of k at built) = absurd (no_address l of k at)

      pub borrow_goes : GoesOn sources (said_in d f t) y.value v
      borrow_goes = record { about = about; back = borrow_back }

    -- an upcast
    module _ (kind : access_kind_of x.op ≡ access.Upcasts) (none : takes_object (allowance_of x.op) ≡ false)
        (no_address : (l : Location) (of : ValueId) (k : ℕ) → IsFieldAddress sources y.value l of k → ⊥) where
      upcast_is : source_at sources v ≡ source.Upcast y.value
      upcast_is = source_is ∙ ap (λ k. source_by k d x) kind ∙ ap upcast_source first_is

      upcast_back : (object : ValueId) → IsUnfinishedOn d f t object → IsAbout sources object y.value → IsAbout sources object v
      upcast_back object un (itself same) =
          absurd (true≢false (sym ((allowed object un (ap deallocates_by kind)).0 same) ∙ none))
      upcast_back object un (borrow built) =
          borrow (upcast_builds m n f a object (ap is_object un.of.is) (item.Inst p ∷ t) turned v y.value defined upcast_is built)
      upcast_back object un (address l of k at built) = absurd (no_address l of k at)

      pub upcast_goes : GoesOn sources (said_in d f t) y.value v
      upcast_goes = record { about = about; back = upcast_back }

    -- the address of a field
    module _ (names : NamesField x.op) (k : ℕ) (trivial : Bool) (field_is : source_at sources v ≡ source.Field y.value k trivial)
        (no_address : (l : Location) (of : ValueId) (k : ℕ) → IsFieldAddress sources y.value l of k → ⊥) where
      is_root : IsRoot (source_at sources v)
      is_root = subst IsRoot (sym field_is) located.field

      field_back : (object : ValueId) → IsUnfinishedOn d f t object → IsAbout sources object y.value → IsAbout sources object v
      field_back object un (itself same) =
          absurd (true≢false (sym ((allowed object un (ap deallocates_by names.kind)).0 same) ∙ names.object))
      field_back object un (borrow built) =
          address (whole v) y.value k (record { at = root_location m n f a v is_root; trivial = trivial; is = field_is }) built
      field_back object un (address l of j at built) = absurd (no_address l of j at)

      pub field_goes : GoesOn sources (said_in d f t) y.value v
      field_goes = record { about = about; back = field_back }

    -- the address of a member
    module _ (takes : TakesWhole x.op) (gives : gives_place (effect_of x.op) ≡ true) (j : ℕ) (part_is : source_at sources v ≡ source.Part y.value j) where
      member_back : (object : ValueId) → IsUnfinishedOn d f t object → IsAbout sources object y.value → IsAbout sources object v
      member_back object un (itself same) = absurd (true≢false (sym ((allowed object un takes.keeps).0 same) ∙ takes.object))
      member_back object un (borrow built) = absurd (true≢false (sym ((allowed object un takes.keeps).1 built) ∙ takes.borrow))
      member_back object un (address l of k at built) =
          let inner = members_located m n f a (item.Inst p ∷ t) h v defined (result_place m n f a p x is gives v made) y.value j part_is in
          let same : inner.location ≡ l = same_Some inner.location l (sym inner.at ∙ at.at) in
          let root : source_at sources (extended j inner.location).root ≡ source.Field of k at.trivial =
          ap (λ (z : Location). source_at sources z.root) same ∙ at.is in
          address (extended j inner.location) of k (record { at = inner.is; trivial = at.trivial; is = root }) built

      pub member_goes : GoesOn sources (said_in d f t) y.value v
      member_goes = record { about = about; back = member_back }
