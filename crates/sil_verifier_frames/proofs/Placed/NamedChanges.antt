-- Rows that name a member of an address or a field of an object: what their results name.
use Rattle.std.proofs.Common.{◌≡◌, ◌<◌, ◌==◌, ⊎_elim, append-nil, ℕ, List, [], ◌∷◌, ◌++◌, length, map, Bool, true, false, Contains, Option, Some, None, Ok, Err, refl, sym, ap, ◌∙◌, subst, eqb-true}
use Rattle.std.specs.Prelude.{option_and_then, option_map, slice_get}
use Rattle.std.specs.List.{list_any}
use Rattle.std.proofs.lemmas.Bool.{false≢true, or_cases, or_left, true≢false}
use Rattle.std.proofs.lemmas.List.Elements.{Contains-push}
use Rattle.std.proofs.lemmas.Option.{same_Some}
use Rattle.sil_verifier_trails.specs.AcceptedTrails.inner.Bases.{IsAsMade}
use Rattle.sil_verifier_trails.specs.AcceptedTrails.inner.Defined.{makes}
use Rattle.holder_model_laws.specs.holder_model.Data.{AddressOf, Datum, as_value}
use Rattle.holder_model_laws.specs.holder_model.Effects as effects
use Rattle.holder_model_laws.specs.holder_model.Effects.{Change, Effect, Makes, effect_by, effect_of, gives, only, part_number, part_number_by, unchanged, with_some}
use Rattle.holder_model_laws.specs.holder_model.Faults.{HolderFault}
use Rattle.holder_model_laws.specs.holder_model.Frames.{Entry, Operands, datum_in, entry_at, result_put, results_put, with_ok}
use Rattle.std.specs.declared.result.Result.{Result}
use Rattle.holder_model_laws.specs.holder_model.MemoryEffects.{at_places, effect}
use Rattle.holder_model_laws.specs.holder_model.ModuleShapes.{ModuleShapes, field_shapes}
use Rattle.holder_model_laws.specs.holder_model.declared.row_effect.RowEffect.{RowEffect}
use Rattle.holder_model_laws.specs.holder_model.declared.row_effect.RowEffect.TheVariants as row
use Rattle.holder_model_laws.specs.memory_rules_accesses.Locations.{extended, location_of}
use Rattle.holder_model_laws.specs.memory_rules_accesses.Operations.{access_kind_of}
use Rattle.holder_model_laws.specs.memory_rules_accesses.Rows.{has_steps, is_part}
use Rattle.holder_model_laws.specs.memory_rules_accesses.Sources.{part_source, source_at, source_by, sources_of}
use Rattle.holder_model_laws.specs.memory_rules_accesses.declared.location.Location.{Location}
use Rattle.holder_model_laws.specs.memory_rules_accesses.declared.source.Source.{Source}
use Rattle.holder_model_laws.specs.memory_rules_accesses.declared.source.Source.TheVariants as source
use Rattle.sil_verifier_trails.specs.RunTrails.inner.RunTrails.{IsRunTrail}
use Rattle.sil_verifier_trails.proofs.AcceptedPlaces.Locating.{members_located}
use Rattle.sil_verifier_trails.proofs.AcceptedPlaces.RootsMade.{operands_located}
use Rattle.sil_verifier_trails.specs.AcceptedPlaces.inner.Located.{IsAddress, IsLocated, IsMemberOf, IsRoot}
use Rattle.sil_verifier_trails.specs.holder_model_typing.OwnedRunTyping.inner.OwnedTyped.{OwnedFunction}
use Rattle.holder_model_laws.specs.holder_model.RunTyping.CallForms.{IsOf}
use Rattle.holder_model_laws.specs.holder_model.RunTyping.EndForms.{value_in}
use Rattle.holder_model_laws.specs.holder_model.RunTyping.Forms.{Form, OfPlace, form_of, forms_of}
use Rattle.instruction_table.specs.Forms.{detail_of, roles_of}
use Rattle.instruction_table.specs.declared.op.Op.{Op}
use Rattle.instruction_table.specs.declared.op.Op.TheVariants as op
use Rattle.sil_cfg_items.specs.Items.{item_defined, item_taken, taken_in}
use Rattle.sil_cfg_items.specs.Parts.{inst_at}
use Rattle.sil_cfg_items.specs.Roles.{conventions_in, roles_for, taken_as, taken_by, taken_each}
use Rattle.sil_cfg_items.specs.declared.taken.Taken.{Taken}
use Rattle.sil_cfg_items.specs.declared.taken.Treatment.{Treatment}
use Rattle.numbered_form.specs.Lists.{Each}
use Rattle.holder_model_laws.specs.ownership_kinds_chains.OwnershipChains.Facts.{has}
use Rattle.holder_model_laws.specs.ownership_kinds_chains.declared.ownership_chains.facts.Facts.{Facts}
use Rattle.sil_verifier_trails.proofs.PlacedValues.RootsTold.{results_told}
use Rattle.holder_model_values.specs.RunValues.Memory.{Memory}
use Rattle.holder_model_values.specs.RunValues.Places.{Inside, OnStack, Place, field_in, part_of}
use Rattle.holder_model_values.specs.RunValues.Shapes.{Shape, member_shapes}
use Rattle.holder_model_values.specs.RunValues.Values.{Value, object_of}
use Rattle.sil_ast.specs.declared.function.Function.{Function}
use Rattle.sil_ast.specs.declared.inst.Inst.{Inst}
use Rattle.sil_ast.specs.declared.member.Member.{Member}
use Rattle.sil_ast.specs.declared.module.Module.{Module}
use Rattle.sil_ast.specs.declared.operands.Operand.{Operand}
use Rattle.sil_ast.specs.declared.place.ObjectId.{ObjectId}
use Rattle.sil_ast.specs.declared.place.PointId.{PointId}
use Rattle.sil_ast.specs.declared.place.ValueId.{ValueId}
use Rattle.sil_cfg.specs.declared.item.Item.{Item}
use Rattle.sil_cfg.specs.declared.item.Item.TheVariants as item
use Rattle.sil_types_declarations.specs.TypeDefinitions.Declarations.{Declarations, declarations_of}
use Rattle.sil_verifier_frames.proofs.Typed.Data.{DataAre, read_place}
use Rattle.sil_verifier_frames.proofs.Typed.Data as data_are
use Rattle.sil_verifier_frames.proofs.Typed.GoesOn.{typed_module}
use Rattle.sil_verifier_frames.proofs.Typed.Performs.{defines_results}
use Rattle.sil_verifier_trails.proofs.holder_model_typing.TypedMemory.Parts.{member_there}
use Rattle.sil_verifier_trails.specs.holder_model_typing.TypedMemory.inner.Worlds.{World}
use Rattle.numbered_form.specs.ValueTables.FirstValue.{first_value, value_of}
use Rattle.sil_verifier_frames.specs.inner.Placed.FramePlaces.{IsPartAt, Names}
use Rattle.sil_verifier_frames.specs.inner.Placed.PartsNamed.{AreNewNamed, ArePartsNamed}
use Rattle.sil_verifier_frames.specs.inner.Placed.Premises.{AreChangesNamed, ReadsOperands}
use Rattle.sil_verifier_frames.specs.inner.Placed.TakenPlaces.{AreNamedBy}
use Rattle.sil_verifier_frames.proofs.Placed.EntriesKept.{never_ok, results_other, results_there}
use Rattle.sil_verifier_frames.proofs.Placed.Naming.{names_once, same_place}
use Rattle.sil_verifier_frames.proofs.Placed.NewParts.{names_inner, others_named}
use Rattle.sil_verifier_frames.proofs.Placed.OperandsNamed.{left_typed_still, operands_named}
use Rattle.sil_verifier_frames.proofs.Placed.PartsNamed.{member_of_the_part, member_of_whole}
use Rattle.sil_verifier_frames.proofs.Placed.Quiet.{IsMember, part_is_member}
use Rattle.sil_verifier_frames.proofs.Placed.Reading.{root_itself}
use Rattle.sil_verifier_frames.proofs.Placed.RowChanges.{is_member_kind, no_part}
use Rattle.sil_verifier_frames.proofs.Placed.RowsAt.{is_at_one, takes_one}
use Rattle.sil_verifier_frames.proofs.Placed.RowsTyped.{MemberForms, Says}
use Rattle.sil_verifier_frames.proofs.Placed.StoresFit.{forms_say, given_typed}

-- ---- one result

-- one datum is put as one result
one_put : (facts : ValueId → Option Facts) (vs : List ValueId) (y : Datum) (entries behind : List Entry) → results_put facts vs (y ∷ []) entries ≡ Ok behind
    → (v : ValueId) × (vs ≡ v ∷ [])
one_put facts [] y entries behind is = absurd (never_ok _ behind is)
one_put facts (v ∷ []) y entries behind is = (v, refl)
one_put facts (v ∷ w ∷ vs) y entries behind is = absurd (two (result_put facts v y entries) is)
  where
    two : (r : Result (List Entry) HolderFault) → with_ok (results_put facts (w ∷ vs) []) r ≡ Ok behind → ⊥
    two (Ok es) e = never_ok _ behind e
    two (Err z) e = never_ok z behind e

among_one : (v u : ValueId) → has (v ∷ []) u.0 ≡ true → u ≡ v
among_one v u h = ⊎_elim
    (λ (same : (v.0 == u.0) ≡ true). ap (λ (k : ℕ). record { 0 = k }) (sym (eqb-true v.0 u.0 same)))
    (λ (never : has [] u.0 ≡ true). absurd (false≢true never))
    (or_cases (v.0 == u.0) (has [] u.0) h)

-- an instruction has one result, and it is this datum
pub record GivesOne (f : Function) (p : PointId) (new : List Entry) (y : Datum) : Type 0 where
  pub v : ValueId
  pub only : item_defined f (item.Inst p) ≡ v ∷ []
  pub holds : datum_in (entry_at new v) ≡ Some y

no_steps : (l : Location) → is_part l ≡ false → l.path ≡ []
no_steps l e = at l.path e
  where
    at : (path : List ℕ) → has_steps path ≡ false → path ≡ []
    at [] e = refl
    at (k ∷ path) e = absurd (true≢false e)

-- the number that a member's row names is that of its source
member_source : (o : Op) (d : Declarations) (i : Inst) → effect_of o ≡ row.AddressesMember → source_by (access_kind_of o) d i ≡ part_source (first_value i) (part_number_by (detail_of o) d i)
member_source op.StructElementAddr d i e = refl
member_source op.TupleElementAddr d i e = refl
member_source _ d i e = absurd (cc)

one_taken : (os : List Operand) (rs : List Treatment) (t : Taken) → taken_each os rs ≡ t ∷ [] → (o : Operand) × (slice_get os 0 ≡ Some o) × (o.value ≡ t.value)
one_taken [] rs t e = absurd (cc)
one_taken (o ∷ os) [] t e = absurd (cc)
one_taken (o ∷ os) (r ∷ rs) t e = let same : taken_as o r ≡ t = cc in (o, refl, ap (λ x. x.value) same)

-- what an effect makes
made_results : (a c : Change) → ◌≡◌ {A = Effect HolderFault} (Makes a) (Makes c) → a.results ≡ c.results
made_results a c e = let same : a ≡ c = cc in ap (λ z. z.results) same

-- a member is no root
no_member_root : (of : ValueId) (k : ℕ) (s : Source) → s ≡ source.Part of k → IsRoot s → ⊥
no_member_root of k _ e IsRoot.slot = cc
no_member_root of k _ e IsRoot.argument = cc
no_member_root of k _ e IsRoot.field = cc

field_kind : (o : Op) → effect_of o ≡ row.AddressesField → is_member_kind (access_kind_of o) ≡ false
field_kind op.RefElementAddr e = refl
field_kind _ e = absurd (cc)

module _ (m : Module) (number : ℕ) (f : Function) (w : World) (facts : ValueId → Option Facts) (memory : Memory) (entries : List Entry) (p : PointId) (ops : Operands)
    (s : ReadsOperands m number f w facts memory entries (item.Inst p) ops) (x : Inst) (there : inst_at f p ≡ Some x)
    (t : List Item) (trail : IsRunTrail f (item.Inst p ∷ t)) (before : ArePartsNamed (sources_of (declarations_of m) f) f t ops.left)
    (shapes : ModuleShapes) (values : List Shape) (c : Change) (new : List Entry)
    (does : effect (declarations_of m) shapes values memory x ops.given ≡ Makes c)
    (put : results_put facts (item_defined f (item.Inst p)) c.results ops.left ≡ Ok new) where
  abbrev d : Declarations
  d = declarations_of m

  abbrev sources : List Source
  sources = sources_of d f

  abbrev i : Item
  i = item.Inst p

  typed : OwnedFunction m f
  typed = (typed_module m s.body.verified).functions number f s.body.body.there

  one_result : (y : Datum) → c.results ≡ y ∷ [] → GivesOne f p new y
  one_result y e =
      let again : results_put facts (item_defined f i) (y ∷ []) ops.left ≡ Ok new = ap (λ xs. results_put facts (item_defined f i) xs ops.left) (sym e) ∙ put in
      let one = one_put facts (item_defined f i) y ops.left new again in
      let of : IsOf f one.0 = (subst (Each (IsOf f)) one.1 (typed.items i).defined).0 in
      record {
        v = one.0;
        only = one.1;
        holds = results_there facts (one.0 ∷ []) (y ∷ []) ops.left new
            (ap (λ vs. results_put facts vs (y ∷ []) ops.left) (sym one.1) ∙ again) (refl, tt) 0 one.0 y refl refl
            (subst (λ n. one.0.0 < n) (sym (left_typed_still m number f w facts memory entries i ops s).size) of);
      }

  -- what isn't a result stays
  stays : (u : ValueId) → makes f u i ≡ false → (q : Place) → Names new u q → Names ops.left u q
  stays u other q names = sym (ap datum_in (results_other facts (item_defined f i) c.results ops.left new put u other)) ∙ names

  -- ---- the address of a field

  module _ (e : effect_of x.op ≡ row.AddressesField) where
    -- a place in an object
    record NamesInside : Type 0 where
      place : Place
      object : ObjectId
      home : place.home ≡ Inside object
      gives_it : c.results ≡ AddressOf place ∷ []

    field_named : (n : Option Member) (k : Option ℕ) (o : ObjectId) → ◌≡◌ {A = Effect HolderFault} (effects.names_field_of d shapes values memory x n k o) (Makes c) → NamesInside
    field_named None k o h = absurd (cc)
    field_named (Some named) None o h = absurd (cc)
    field_named (Some named) (Some k) o h = at (slice_get (field_shapes shapes named.owner) k) h
      where
        at : (z : Option Shape) → ◌≡◌ {A = Effect HolderFault} (with_some (λ q. gives memory (AddressOf q ∷ [])) (option_map (field_in o (field_shapes shapes named.owner) k) z)) (Makes c)
            → NamesInside
        at None h = absurd (cc)
        at (Some u) h = record {
          place = field_in o (field_shapes shapes named.owner) k u;
          object = o;
          home = refl;
          gives_it = sym (made_results _ c h);
        }

    of_value : (y : Option Value) → ◌≡◌ {A = Effect HolderFault} (with_some (effects.names_field d shapes values memory x) y) (Makes c) → NamesInside
    of_value None h = absurd (cc)
    of_value (Some y) h = at (object_of y) h
      where
        at : (o : Option ObjectId) → ◌≡◌ {A = Effect HolderFault} (with_some (effects.names_field_of d shapes values memory x x.member (part_number d x)) o) (Makes c) → NamesInside
        at None h = absurd (cc)
        at (Some o) h = field_named x.member (part_number d x) o h

    inside : NamesInside
    inside = of_value (option_and_then as_value (only ops.given)) (ap (λ r. effect_by d shapes values memory x (at_places d shapes values memory x) r ops.given) (sym e) ∙ does)

    pub field_result : AreNewNamed sources f t i ops.left new
    field_result = record {
      parts = λ v made l at part root whole q one two. absurd (no_member v made (part_is_member sources v l at part));
      fields = λ v made l at of k trivial src q names home.
          let same : q ≡ inside.place = itself v made q names in
          no_home (sym home ∙ ap (λ z. z.home) same ∙ inside.home);
    }
      where
        given : GivesOne f p new (AddressOf inside.place)
        given = one_result (AddressOf inside.place) inside.gives_it

        itself : (v : ValueId) → makes f v i ≡ true → (q : Place) → Names new v q → q ≡ inside.place
        itself v made q names =
            let one : v ≡ given.v = among_one given.v v (sym (ap (λ vs. has vs v.0) given.only) ∙ made) in
            same_place q inside.place (sym names ∙ ap (λ u. datum_in (entry_at new u)) one ∙ given.holds)

        no_home : OnStack ≡ Inside inside.object → ⊥
        no_home h = cc

        no_member : (v : ValueId) → makes f v i ≡ true → IsMember sources v → ⊥
        no_member v made inner =
            no_part (access_kind_of x.op) d x (field_kind x.op e) (inner.of, inner.number, sym (results_told m number f s.body p x there v made) ∙ inner.source)

  -- ---- a member of an address

  module _ (e : effect_of x.op ≡ row.AddressesMember) where
    says : MemberForms m x (forms_of d f (map value_in x.operands)) (forms_of d f x.results)
    says = subst (λ r. Says m x r (forms_of d f (map value_in x.operands)) (forms_of d f x.results)) e (forms_say m number f w facts memory entries p ops s x there)

    -- its operand
    record OperandAt : Type 0 where
      place : Place
      shape : place.shape ≡ says.whole
      given : ops.given ≡ AddressOf place ∷ []

    operand : OperandAt
    operand = at ops.given refl (subst (λ fs. DataAre m w fs ops.given) says.are (given_typed m number f w facts memory entries p ops s x there))
      where
        at : (ys : List Datum) → ops.given ≡ ys → DataAre m w (OfPlace says.whole ∷ []) ys → OperandAt
        at _ same (data_are.more _ y _ _ given data_are.none) =
            let q = read_place m w given says.whole refl in
            record { place = q.0; shape = q.2; given = same ∙ ap (λ z. z ∷ []) q.1 }

    abbrev whole_place : Place
    whole_place = operand.place

    member_there_is : slice_get (member_shapes whole_place.shape) says.number ≡ Some says.part
    member_there_is = ap (λ u. slice_get (member_shapes u) says.number) operand.shape ∙ says.member

    abbrev part_place : Place
    part_place = part_of whole_place (member_shapes whole_place.shape) says.number says.part

    gives_part : c.results ≡ AddressOf part_place ∷ []
    gives_part = sym (made_results (record (unchanged memory) { results = AddressOf part_place ∷ [] }) c (
        sym (ap (λ r. effect_by d shapes values memory x (at_places d shapes values memory x) r ops.given) e
        ∙ ap (λ ys. effects.the_place d shapes values memory x (effects.names_member d shapes values memory x (part_number d x)) ys) operand.given
        ∙ ap (λ n. effects.names_member d shapes values memory x n whole_place) says.number_is
        ∙ ap (with_some (λ q. gives memory (AddressOf q ∷ []))) (member_there whole_place says.number says.part member_there_is))
        ∙ does))

    given_one : GivesOne f p new (AddressOf part_place)
    given_one = one_result (AddressOf part_place) gives_part

    itself : (v : ValueId) → makes f v i ≡ true → (q : Place) → Names new v q → q ≡ part_place
    itself v made q names =
        let one : v ≡ given_one.v = among_one given_one.v v (sym (ap (λ vs. has vs v.0) given_one.only) ∙ made) in
        same_place q part_place (sym names ∙ ap (λ u. datum_in (entry_at new u)) one ∙ given_one.holds)

    -- the operand as the item takes it
    record TakenOne : Type 0 where
      taken : Taken
      only : item_taken f i ≡ taken ∷ []
      first : first_value x ≡ Some taken.value
      names : Names ops.left taken.value whole_place

    taken_one : TakenOne
    taken_one = at (item_taken f i) refl (subst (AreNamedBy ops.left (item_taken f i)) operand.given (operands_named m number f w facts memory entries i ops s))
      where
        all : item_taken f i ≡ taken_by x
        all = ap (λ o. taken_in o ++ []) there ∙ append-nil (taken_by x)

        at : (ts : List Taken) → item_taken f i ≡ ts → AreNamedBy ops.left ts (AddressOf whole_place ∷ []) → TakenOne
        at [] same h = absurd h
        at (y ∷ z ∷ ts) same h = absurd h.1
        at (y ∷ []) same h =
            let row_takes = takes_one x y (ap is_at_one e) (sym all ∙ same) in
            let o = one_taken x.operands (roles_for (roles_of x.op) (conventions_in x) (length x.operands)) y (sym all ∙ same) in
            record {
              taken = y;
              only = same;
              first = ap (option_map value_of) o.1 ∙ ap Some o.2;
              names = h.0 row_takes.role_is whole_place refl;
            }

    abbrev of : ValueId
    of = taken_one.taken.value

    source_is : (v : ValueId) → makes f v i ≡ true → source_at sources v ≡ source.Part of says.number
    source_is v made =
        results_told m number f s.body p x there v made
        ∙ member_source x.op d x e
        ∙ ap (λ z. part_source z (part_number d x)) taken_one.first
        ∙ ap (part_source (Some of)) says.number_is

    address : (v : ValueId) → makes f v i ≡ true → IsAddress d f v
    address v made =
        let one : v ≡ given_one.v = among_one given_one.v v (sym (ap (λ vs. has vs v.0) given_one.only) ∙ made) in
        let results : x.results ≡ given_one.v ∷ [] = sym (defines_results f p x there) ∙ given_one.only in
        let forms : form_of d f given_one.v ∷ [] ≡ OfPlace says.part ∷ [] = sym (ap (forms_of d f) results) ∙ says.give in
        record { shape = says.part; is = ap (form_of d f) one ∙ first_form forms }
      where
        first_form : {a b : Form} → a ∷ [] ≡ b ∷ [] → a ≡ b
        first_form h = cc

    member_of : (v : ValueId) → makes f v i ≡ true → IsMemberOf d f (i ∷ t) v of says.number
    member_of v made =
        members_located m number f s.body (i ∷ t) trail v (or_left (makes f v i) (list_any (makes f v) t) made) (address v made) of says.number (source_is v made)

    operand_located : (v : ValueId) → makes f v i ≡ true → IsLocated d f t of
    operand_located v made =
        operands_located m number f s.body t i trail taken_one.taken (subst (λ ts. Contains ts taken_one.taken) (sym taken_one.only) (Contains-push [] taken_one.taken)) (member_of v made).address

    -- the location of the operand, and that of the result
    record At (v : ValueId) (l : Location) : Type 0 where
      location : Location
      is : location_of sources of ≡ Some location
      extends : l ≡ extended says.number location
      made : IsAsMade f t location.root of
      rooted : IsRoot (source_at sources location.root)

    at_location : (v : ValueId) → makes f v i ≡ true → (l : Location) → location_of sources v ≡ Some l → At v l
    at_location v made l at =
        let z = member_of v made in
        let y = operand_located v made in
        let same : y.location ≡ z.location = same_Some y.location z.location (sym y.is ∙ z.at) in
        record {
          location = z.location;
          is = z.at;
          extends = same_Some l (extended says.number z.location) (sym at ∙ z.is);
          made = subst (λ k. IsAsMade f t k.root of) same y.root;
          rooted = subst (λ k. IsRoot (source_at sources k.root)) same y.rooted;
        }

    -- a root isn't the result, so its entry stays
    root_stays : (v : ValueId) → makes f v i ≡ true → (l : Location) (a : At v l) → (q : Place) → Names new l.root q → Names ops.left a.location.root q
    root_stays v made l a q names = at (makes f a.location.root i) refl
      where
        there_too : Names new a.location.root q
        there_too = subst (λ k. Names new k.root q) a.extends names

        at : (b : Bool) → makes f a.location.root i ≡ b → Names ops.left a.location.root q
        at true h = absurd (no_member_root of says.number (source_at sources a.location.root) (source_is a.location.root h) a.rooted)
        at false h = stays a.location.root h q there_too

    pub member_result : AreNewNamed sources f t i ops.left new
    member_result = record {
      parts = λ v made l at part root whole q one two.
          let a = at_location v made l at in
          subst (λ z. IsPartAt whole l.path z) (sym (itself v made q two))
          (subst (λ k. IsPartAt whole k.path part_place) (sym a.extends)
          (named_part v a.location a.is a.made whole (root_stays v made l a whole one)));
      fields = λ v made l at from k trivial src q names home.
          let a = at_location v made l at in
          before.fields of a.location a.is from k trivial (ap (λ z. source_at sources z.root) (sym a.extends) ∙ src) whole_place taken_one.names
          (ap (λ z. z.home) (sym (itself v made q names)) ∙ home);
    }
      where
        named_part : (v : ValueId) (location : Location) → location_of sources of ≡ Some location → IsAsMade f t location.root of
            → (whole : Place) → Names ops.left location.root whole → IsPartAt whole (location.path ++ says.number ∷ []) part_place
        named_part v location at made whole names = by (is_part location) refl
          where
            by : (b : Bool) → is_part location ≡ b → IsPartAt whole (location.path ++ says.number ∷ []) part_place
            by true h = member_of_the_part whole whole_place location.path says.number says.part (before.parts of location at h made whole whole_place names taken_one.names) member_there_is
            by false h =
                let root : location.root ≡ of = root_itself sources of location at h in
                let same : whole ≡ whole_place = names_once ops.left of whole whole_place (subst (λ u. Names ops.left u whole) root names) taken_one.names in
                subst (λ path. IsPartAt whole (path ++ says.number ∷ []) part_place) (sym (no_steps location h))
                (subst (λ z. IsPartAt z (says.number ∷ []) part_place) (sym same)
                (member_of_whole whole_place says.number says.part member_there_is))

-- ---- all rows

inner_row : {A : Type 0} (r : RowEffect) → names_inner r ≡ true → (r ≡ row.AddressesMember → A) → (r ≡ row.AddressesField → A) → A
inner_row row.AddressesMember h member field = member refl
inner_row row.AddressesField h member field = field refl
inner_row r h member field = absurd (false≢true h)

pub changes_named : AreChangesNamed
changes_named m n f w facts memory entries p ops s x there t trail before shapes values c new is put = at (names_inner (effect_of x.op)) refl
  where
    at : (b : Bool) → names_inner (effect_of x.op) ≡ b → AreNewNamed (sources_of (declarations_of m) f) f t (item.Inst p) ops.left new
    at false h = others_named m n f s.body t p x there h ops.left new
    at true h = inner_row (effect_of x.op) h
        (λ e. member_result m n f w facts memory entries p ops s x there t trail before shapes values c new is put e)
        (λ e. field_result m n f w facts memory entries p ops s x there t trail before shapes values c new is put e)
