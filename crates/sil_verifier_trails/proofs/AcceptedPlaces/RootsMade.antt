-- The root of an address that the next item takes is as it was when the address was named: by the law of splicing.
use Rattle.std.proofs.Common.{◌≡◌, ◌⊎◌, inl, inr, ℕ, List, [], ◌∷◌, ◌++◌, reverse, refl, sym, ap, ap₂, ◌∙◌, subst, Bool, true, false, not, ◌&&◌, ◌||◌, Some, eq-eqb}
use Rattle.std.specs.Prelude.{◌==◌}
use Rattle.std.specs.List.{list_any}
use Rattle.std.proofs.lemmas.Bool.{eqb-true, false≢true, true≢false}
use Rattle.std.proofs.lemmas.List.{reverse-reverse}
use Rattle.std.proofs.lemmas.Option.{same_Some}
use Rattle.sil_verifier_trails.specs.AcceptedTrails.inner.Bases.{IsAsMade}
use Rattle.sil_verifier_trails.specs.AcceptedTrails.inner.Defined.{IsDefinedOn, makes}
use Rattle.sil_verifier_values.specs.memory_rules_accesses.Locations.{location_of, whole}
use Rattle.sil_verifier_values.specs.memory_rules_accesses.Sources.{sources_of}
use Rattle.sil_verifier_values.specs.memory_rules_accesses.declared.location.Location.{Location}
use Rattle.sil_verifier_values.specs.memory_rules_accesses.declared.source.Source.{Source}
use Rattle.sil_verifier_trails.specs.RunTrails.inner.RunTrails.{IsTurnedTrail}
use Rattle.sil_verifier_trails.specs.RunTrails.inner.Since.{is_none_since}
use Rattle.sil_verifier_trails.proofs.AcceptedTrails.Tests.{any_alike, any_reversed, each_weaker, or_right, picked}
use Rattle.sil_verifier_trails.proofs.RunTrails.RunPaths.{are_trails}
use Rattle.sil_verifier_trails.proofs.RunTrails.SplicedRuns.{are_spliced}
use Rattle.sil_verifier_trails.proofs.RunTrails.TurnedTrails.{are_of_items, turned_item, turned_older}
use Rattle.sil_verifier_trails.proofs.AcceptedPremises.MadeAtStops.{made_at_stops}
use Rattle.sil_verifier_values.specs.inner.Known.{IsAcceptedBody}
use Rattle.sil_cfg_items.specs.Items.{item_taken}
use Rattle.sil_cfg_items.specs.declared.taken.Taken.{Taken}
use Rattle.numbered_form.specs.Lists.{Each}
use Rattle.sil_verifier_values.specs.ownership_kinds_chains.OwnershipChains.Facts.{value_of}
use Rattle.numbered_form.proofs.PointChecks.Among.{Among, among_contained}
use Rattle.sil_ast.specs.declared.function.Function.{Function}
use Rattle.sil_ast.specs.declared.module.Module.{Module}
use Rattle.sil_ast.specs.declared.place.EdgeId.{EdgeId}
use Rattle.sil_ast.specs.declared.place.ValueId.{ValueId}
use Rattle.sil_cfg.specs.Items.{IsItem, flow_of}
use Rattle.sil_cfg.specs.Walk.{IsTrail}
use Rattle.sil_cfg.specs.declared.item.Item.{Item}
use Rattle.sil_cfg.specs.declared.item.Item.TheVariants as items
use Rattle.sil_cfg.specs.inner.Splice.{Precedes, Stop, is_at, item, same_item}
use Rattle.sil_cfg.proofs.Places.{same_item-true}
use Rattle.sil_verifier_values.specs.sil_types_declarations.TypeDefinitions.Declarations.{Declarations, declarations_of}
use Rattle.sil_verifier_trails.specs.AcceptedPlaces.inner.Located.{AreOperandsLocated, IsAddress}
use Rattle.sil_verifier_trails.proofs.AcceptedPlaces.ItemStacks.{accepted_in}
use Rattle.sil_verifier_trails.proofs.AcceptedPlaces.Locating.{location_there, made_by_item, member_location, root_begins, root_location, taken_before}
use Rattle.sil_verifier_trails.proofs.AcceptedPlaces.Naming.{MakesAddress, makes_member, makes_root}

-- what passes has come since itself
since_itself : (p : Item → Bool) (t : List Item) → list_any p t ≡ true → is_none_since p p t ≡ true
since_itself p [] h = h
since_itself p (i ∷ t) h = at (p i) (is_none_since p p t) (since_itself p t) h
  where
    at : (here : Bool) (none : Bool) → (list_any p t ≡ true → none ≡ true) → (here || list_any p t) ≡ true → (here || (not here && none)) ≡ true
    at true none more e = refl
    at false none more e = more e

since_alike : (p q r s : Item → Bool) (t : List Item) → Each (λ i. p i ≡ r i) t → Each (λ i. q i ≡ s i) t → is_none_since p q t ≡ is_none_since r s t
since_alike p q r s [] h k = refl
since_alike p q r s (i ∷ t) h k = ap₂ (λ a b. a || b) k.0 (ap₂ (λ a b. not a && b) h.0 (since_alike p q r s t h.1 k.1))

itself : (i : Item) → same_item i i ≡ true
itself items.Entry = refl
itself (items.Inst p) = ap₂ (λ a b. a && b) (eq-eqb p.block.0 p.block.0 refl) (eq-eqb p.index p.index refl)
itself (items.Edge e) = ap₂ (λ a b. a && b) (eq-eqb e.block.0 e.block.0 refl) (eq-eqb e.index e.index refl)
itself (items.Exit p) = ap₂ (λ a b. a && b) (eq-eqb p.block.0 p.block.0 refl) (eq-eqb p.index p.index refl)

module _ (m : Module) (n : ℕ) (f : Function) (a : IsAcceptedBody m n f) where
  abbrev d : Declarations
  d = declarations_of m

  abbrev sources : List Source
  sources = sources_of d f

  -- the address lies at this root
  abbrev LiesAt : ValueId → ValueId → Type 0
  LiesAt b v = IsAddress d f v × ((l : Location) × (location_of sources v ≡ Some l) × (l.root ≡ b))

  -- what makes an address is its root, or takes an address at the same root
  root_taken : (t : List Item) (i : Item) → IsTurnedTrail f (i ∷ t) → (v b : ValueId) → makes f v i ≡ true → LiesAt b v
      → (b ≡ v) ⊎ ((w : ValueId) × IsDefinedOn f t w × LiesAt b w)
  root_taken t i h v b made lies = by (made_by_item m n f a i v made lies.0)
    where
      by : MakesAddress d f i v → (b ≡ v) ⊎ ((w : ValueId) × IsDefinedOn f t w × LiesAt b w)
      by (makes_root r) =
          let same : lies.1.0 ≡ whole v = same_Some lies.1.0 (whole v) (sym lies.1.1 ∙ root_location m n f a v r) in
          inl (sym lies.1.2 ∙ ap (λ (l : Location). l.root) same)
      by (makes_member of k part among address) =
          let l = member_location m n f a v of k part lies.1.0 lies.1.1 in
          inr (of, taken_before m n f a t i h of among, (address, (l.0, l.1, sym (ap (λ (x : Location). x.root) l.2) ∙ lies.1.2)))

  -- the root of a defined address is defined
  root_defined : (b : ValueId) (t : List Item) → IsTurnedTrail f t → (v : ValueId) → IsDefinedOn f t v → LiesAt b v → IsDefinedOn f t b
  root_defined b [] h v made lies = absurd (false≢true made)
  root_defined b (i ∷ t) h v made lies = at (makes f v i) refl (root_defined b t (turned_older f i t h))
    where
      at : (x : Bool) → makes f v i ≡ x → ((w : ValueId) → IsDefinedOn f t w → LiesAt b w → IsDefinedOn f t b) → IsDefinedOn f (i ∷ t) b
      at true is more = by (root_taken t i h v b is lies)
        where
          by : (b ≡ v) ⊎ ((w : ValueId) × IsDefinedOn f t w × LiesAt b w) → IsDefinedOn f (i ∷ t) b
          by (inl same) = subst (IsDefinedOn f (i ∷ t)) (sym same) made
          by (inr (w, defined, at_root)) = or_right (makes f b i) (list_any (makes f b) t) (more w defined at_root)
      at false is more = or_right (makes f b i) (list_any (makes f b) t) (more v (sym (ap (λ x. x || list_any (makes f v) t) is) ∙ made) lies)

  -- a trail, the oldest item first, is one turned round
  turned : (w : List EdgeId) (before : List Item) (i : Item) → IsTrail (flow_of f) w (before ++ i ∷ []) → IsTurnedTrail f (i ∷ reverse before)
  turned w before i trail = (w, subst (λ v. IsTrail (flow_of f) w (v ++ i ∷ [])) (sym (reverse-reverse before)) trail)

  abbrev IsStopOf : ValueId → Stop → Type 0
  IsStopOf v s = (i : Item) → IsItem f i → makes f v i ≡ is_at (flow_of f) s i

  made_at : (v : ValueId) (s : Stop) → IsStopOf v s → (t : List Item) → IsTurnedTrail f t → Each (λ i. makes f v i ≡ is_at (flow_of f) s i) t
  made_at v s stop t h = each_weaker (IsItem f) (λ i. makes f v i ≡ is_at (flow_of f) s i) stop t (are_of_items f t h)

  stops_before : (v : ValueId) (s : Stop) → IsStopOf v s → (before : List Item) → IsTurnedTrail f (reverse before) → IsDefinedOn f (reverse before) v
      → list_any (is_at (flow_of f) s) before ≡ true
  stops_before v s stop before h made =
      sym (any_reversed (is_at (flow_of f) s) before)
      ∙ sym (any_alike (makes f v) (is_at (flow_of f) s) (reverse before) (made_at v s stop (reverse before) h)) ∙ made

  root_precedes : (b v : ValueId) (r s : Stop) → IsStopOf b r → IsStopOf v s → LiesAt b v → (b ≡ v → ⊥) → Precedes (flow_of f) r s
  root_precedes b v r s at_b at_v lies other w before i trail here =
      let h = turned w before i trail in
      let older = turned_older f i (reverse before) h in
      stops_before b r at_b before older (by (reverse before) older (root_taken (reverse before) i h v b (at_v i (turned_item f i (reverse before) h) ∙ here) lies))
    where
      by : (t : List Item) → IsTurnedTrail f t → (b ≡ v) ⊎ ((w : ValueId) × IsDefinedOn f t w × LiesAt b w) → IsDefinedOn f t b
      by t older (inl same) = absurd (other same)
      by t older (inr (w, defined, at_root)) = root_defined b t older w defined at_root

  taken_precedes : (v : ValueId) (s : Stop) → IsStopOf v s → (i : Item) → list_any (λ (y : Taken). y.value.0 == v.0) (item_taken f i) ≡ true → Precedes (flow_of f) s (item i)
  taken_precedes v s at_v i among w before j trail here =
      let h = turned w before j trail in
      let older = turned_older f j (reverse before) h in
      let same : j ≡ i = same_item-true j i here in
      stops_before v s at_v before older
      (taken_before m n f a (reverse before) j h v (ap (λ k. list_any (λ (y : Taken). y.value.0 == v.0) (item_taken f k)) same ∙ among))

  stop_of : (v : ValueId) (t : List Item) → IsTurnedTrail f t → IsDefinedOn f t v → (s : Stop) × IsStopOf v s
  stop_of v t h made = let i = picked (makes f v) (IsItem f) t (are_of_items f t h) made in made_at_stops m n f a v i.0 i.2 i.1

  as_made : (t : List Item) (i : Item) → IsTurnedTrail f (i ∷ t) → (v b : ValueId) → list_any (λ (y : Taken). y.value.0 == v.0) (item_taken f i) ≡ true → LiesAt b v
      → IsAsMade f t b v
  as_made t i h v b among lies = record { defined = defined; since = at (b.0 == v.0) refl }
    where
      made : IsDefinedOn f t v
      made = taken_before m n f a t i h v among

      older : IsTurnedTrail f t
      older = turned_older f i t h

      defined : IsDefinedOn f t b
      defined = root_defined b t older v made lies

      at : (x : Bool) → (b.0 == v.0) ≡ x → is_none_since (makes f b) (makes f v) t ≡ true
      at true is =
          subst (λ u. is_none_since (makes f u) (makes f v) t ≡ true) (sym (ap value_of (eqb-true b.0 v.0 is))) (since_itself (makes f v) t made)
      at false is =
          let r = stop_of b t older defined in
          let s = stop_of v t older made in
          let differ : b ≡ v → ⊥ = λ same. true≢false (sym (eq-eqb b.0 v.0 (ap (λ (x : ValueId). x.0) same)) ∙ is) in
          since_alike (makes f b) (makes f v) (is_at (flow_of f) r.0) (is_at (flow_of f) s.0) t (made_at b r.0 r.1 t older) (made_at v s.0 s.1 t older)
          ∙ are_spliced f r.0 s.0 (item i) (root_precedes b v r.0 s.0 r.1 s.1 lies differ) (taken_precedes v s.0 s.1 i among) t i h (itself i)

  among_any : (y : Taken) (ts : List Taken) → Among y ts → list_any (λ (x : Taken). x.value.0 == y.value.0) ts ≡ true
  among_any y [] h = absurd h
  among_any y (t ∷ ts) (inl same) =
      ap (λ b. b || list_any (λ (x : Taken). x.value.0 == y.value.0) ts) (eq-eqb t.value.0 y.value.0 (ap (λ (x : Taken). x.value.0) (sym same)))
  among_any y (t ∷ ts) (inr more) = or_right (t.value.0 == y.value.0) (list_any (λ (x : Taken). x.value.0 == y.value.0) ts) (among_any y ts more)

pub operands_located : AreOperandsLocated
operands_located m n f a t i h y c address =
    let turned = are_trails f (accepted_in m n f a).once (i ∷ t) h in
    let among = among_any m n f a y (item_taken f i) (among_contained y (item_taken f i) c) in
    let made = taken_before m n f a t i turned y.value among in
    let older = turned_older f i t turned in
    let l = location_there m n f a t older y.value made address in
    record {
      location = l.0;
      is = l.1;
      rooted = root_begins m n f a t older y.value made address l.0 l.1;
      root = as_made m n f a t i turned y.value l.0.root among (address, (l.0, l.1, refl));
    }
