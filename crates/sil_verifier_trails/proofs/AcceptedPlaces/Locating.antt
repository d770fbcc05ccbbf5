-- Each address that is defined on a trail has a location: one step more leads to its root for each value that is defined.
use Rattle.std.proofs.Common.{◌≡◌, ◌⊎◌, inl, inr, ℕ, zero, suc, ◌+◌, ◌-◌, ◌<◌, ◌≤◌, List, [], ◌∷◌, length, refl, sym, ap, ◌∙◌, subst, arith, Bool, true, false, ◌||◌, Option, Some, None}
use Rattle.std.specs.Prelude.{◌==◌, option_map}
use Rattle.std.specs.List.{list_any}
use Rattle.std.proofs.lemmas.Bool.{cases_lt, eqb-true, false≢true, true≢false}
use Rattle.std.proofs.lemmas.Option.{none-some, same_Some}
use Rattle.sil_verifier_trails.specs.AcceptedTrails.inner.Defined.{IsDefinedOn, IsTakenFrom, makes}
use Rattle.sil_verifier_values.specs.memory_rules_accesses.Locations.{extended, locate, located_by, location_of, whole}
use Rattle.sil_verifier_values.specs.memory_rules_accesses.Sources.{source_at, sources_of}
use Rattle.sil_verifier_values.specs.memory_rules_accesses.declared.location.Location.{Location}
use Rattle.sil_verifier_values.specs.memory_rules_accesses.declared.source.Source.{Source}
use Rattle.sil_verifier_values.specs.memory_rules_accesses.declared.source.Source.TheVariants as source
use Rattle.sil_verifier_trails.specs.RunTrails.inner.RunTrails.{IsTurnedTrail}
use Rattle.sil_verifier_trails.proofs.AcceptedTrails.OperandsDefined.{operands_defined}
use Rattle.sil_verifier_trails.proofs.AcceptedTrails.Tests.{or_right, picked, same_value}
use Rattle.sil_verifier_trails.proofs.RunTrails.RunPaths.{are_trails}
use Rattle.sil_verifier_trails.proofs.RunTrails.TurnedTrails.{turned_older}
use Rattle.sil_verifier_values.specs.inner.Known.{IsAcceptedBody}
use Rattle.sil_cfg_items.specs.Items.{item_defined, item_taken}
use Rattle.sil_cfg_items.specs.declared.taken.Taken.{Taken}
use Rattle.sil_verifier_values.specs.ownership_kinds_chains.OwnershipChains.Facts.{value_of}
use Rattle.numbered_form.proofs.PointChecks.Among.{contained_among}
use Rattle.sil_ast.specs.declared.function.Function.{Function}
use Rattle.sil_ast.specs.declared.module.Module.{Module}
use Rattle.sil_ast.specs.declared.place.ValueId.{ValueId}
use Rattle.sil_cfg.specs.declared.item.Item.{Item}
use Rattle.sil_verifier_values.specs.sil_types_declarations.TypeDefinitions.Declarations.{Declarations, declarations_of}
use Rattle.sil_verifier_trails.specs.AcceptedPlaces.inner.Located.{AreAddressesNamed, AreMembersLocated, AreRootsLocated, IsAddress, IsMemberOf, IsNamed, IsRoot, argument, field, member, root, slot}
use Rattle.sil_verifier_trails.proofs.AcceptedPlaces.Fields.{has_among}
use Rattle.sil_verifier_trails.proofs.AcceptedPlaces.ItemStacks.{accepted_in}
use Rattle.sil_verifier_trails.proofs.AcceptedPlaces.Naming.{MakesAddress, address_made, makes_member, makes_root}
use Rattle.sil_verifier_trails.proofs.AcceptedPlaces.PartsThere.{has_row}

-- ---- how many of some numbers pass

abbrev one_if : Bool → ℕ
one_if true = 1
one_if false = 0

abbrev counted : (ℕ → Bool) → ℕ → ℕ → ℕ
counted p a zero = 0
counted p a (suc n) = one_if (p a) + counted p (a + 1) n

one_more : (p q : ℕ → Bool) → ((k : ℕ) → p k ≡ true → q k ≡ true) → (k : ℕ) → one_if (p k) ≤ one_if (q k)
one_more p q more k = by (p k) (q k) (more k)
  where
    by : (x y : Bool) → (x ≡ true → y ≡ true) → one_if x ≤ one_if y
    by true true h = omega arith
    by true false h = absurd (false≢true (h refl))
    by false y h = omega arith

counted_more : (p q : ℕ → Bool) → ((k : ℕ) → p k ≡ true → q k ≡ true) → (a n : ℕ) → counted p a n ≤ counted q a n
counted_more p q more a zero = omega arith
counted_more p q more a (suc n) = let here = one_more p q more a in let rest = counted_more p q more (a + 1) n in omega (arith, here, rest)

counted_up : (p q : ℕ → Bool) → ((k : ℕ) → p k ≡ true → q k ≡ true) → (v : ℕ) → p v ≡ false → q v ≡ true → (a n : ℕ) → a ≤ v → v < a + n
    → counted p a n < counted q a n
counted_up p q more v not_p is_q a zero le lt = absurd (omega arith)
counted_up p q more v not_p is_q a (suc n) le lt = by (cases_lt a v) (λ l t. counted_up p q more v not_p is_q (a + 1) n l t)
  where
    by : (a < v) ⊎ (v ≤ a) → (a + 1 ≤ v → v < (a + 1) + n → counted p (a + 1) n < counted q (a + 1) n) → counted p a (suc n) < counted q a (suc n)
    by (inl less) further = let here = one_more p q more a in let rest = further (omega arith) (omega arith) in omega (arith, here, rest)
    by (inr not_less) further =
        let same : a ≡ v = omega arith in
        let none : one_if (p a) ≡ 0 = ap (λ k. one_if (p k)) same ∙ ap (λ b. one_if b) not_p in
        let some : one_if (q a) ≡ 1 = ap (λ k. one_if (q k)) same ∙ ap (λ b. one_if b) is_q in
        let rest = counted_more p q more (a + 1) n in
        omega (arith, none, some, rest)

counted_within : (p : ℕ → Bool) (a n : ℕ) → counted p a n ≤ n
counted_within p a zero = omega arith
counted_within p a (suc n) = let rest = counted_within p (a + 1) n in by (p a) rest
  where
    by : (b : Bool) → counted p (a + 1) n ≤ n → one_if b + counted p (a + 1) n ≤ suc n
    by true rest = omega arith
    by false rest = omega arith

-- ---- more steps lead to the same root

module _ (sources : List Source) where
  located_more : (one other : ValueId → Option Location) → ((w : ValueId) (l : Location) → one w ≡ Some l → other w ≡ Some l)
      → (v : ValueId) (s : Source) (l : Location) → located_by one v s ≡ Some l → located_by other v s ≡ Some l
  located_more one other more v (source.Slot trivial) l e = e
  located_more one other more v (source.Argument row trivial) l e = e
  located_more one other more v (source.Object fields) l e = e
  located_more one other more v (source.Borrow of) l e = e
  located_more one other more v (source.Upcast of) l e = e
  located_more one other more v (source.Loan of) l e = e
  located_more one other more v (source.Field of k trivial) l e = e
  located_more one other more v (source.Part of k) l e = by (one of) refl e
    where
      by : (o : Option Location) → one of ≡ o → option_map (extended k) o ≡ Some l → option_map (extended k) (other of) ≡ Some l
      by None is h = absurd (none-some l h)
      by (Some x) is h = ap (option_map (extended k)) (more of x is) ∙ h
  located_more one other more v source.Other l e = e

  locate_one_more : (n : ℕ) (v : ValueId) (l : Location) → locate sources n v ≡ Some l → locate sources (suc n) v ≡ Some l
  locate_one_more zero v l e = absurd (none-some l e)
  locate_one_more (suc n) v l e = located_more (locate sources n) (locate sources (suc n)) (locate_one_more n) v (source_at sources v) l e

  pub locate_more : (k n : ℕ) (v : ValueId) (l : Location) → locate sources n v ≡ Some l → locate sources (k + n) v ≡ Some l
  locate_more zero n v l e = ap (λ j. locate sources j v) (let same : 0 + n ≡ n = omega arith in same) ∙ e
  locate_more (suc k) n v l e =
      ap (λ j. locate sources j v) (let same : suc k + n ≡ suc (k + n) = omega arith in same) ∙ locate_one_more (k + n) v l (locate_more k n v l e)

  pub locate_within : (n k : ℕ) → n ≤ k → (v : ValueId) (l : Location) → locate sources n v ≡ Some l → locate sources k v ≡ Some l
  locate_within n k le v l e =
      let same : k ≡ (k - n) + n = omega arith in ap (λ j. locate sources j v) same ∙ locate_more (k - n) n v l e

  -- a root is found at once
  root_by : (n : ℕ) (v : ValueId) (s : Source) → IsRoot s → located_by (locate sources n) v s ≡ Some (whole v)
  root_by n v _ slot = refl
  root_by n v _ argument = refl
  root_by n v _ field = refl

  pub root_found : (n : ℕ) (v : ValueId) → IsRoot (source_at sources v) → locate sources (suc n) v ≡ Some (whole v)
  root_found n v is = root_by n v (source_at sources v) is

  pub member_found : (n : ℕ) (v of : ValueId) (k : ℕ) → source_at sources v ≡ source.Part of k → locate sources (suc n) v ≡ option_map (extended k) (locate sources n of)
  member_found n v of k is = ap (located_by (locate sources n) v) is

  root_some : (s : Source) → IsRoot s → s ≡ source.Other → ⊥
  root_some _ slot e = cc
  root_some _ argument e = cc
  root_some _ field e = cc

  pub root_in_table : (v : ValueId) → IsRoot (source_at sources v) → v.0 < length sources
  root_in_table v is = has_row sources v (root_some (source_at sources v) is)

module _ (m : Module) (n : ℕ) (f : Function) (a : IsAcceptedBody m n f) where
  abbrev d : Declarations
  d = declarations_of m

  abbrev sources : List Source
  sources = sources_of d f

  -- how many values are defined on the trail
  abbrev defined_on : List Item → ℕ → Bool
  defined_on t k = list_any (makes f (value_of k)) t

  abbrev steps : List Item → ℕ
  steps t = counted (defined_on t) 0 (length sources)

  still : (t : List Item) (i : Item) (k : ℕ) → defined_on t k ≡ true → defined_on (i ∷ t) k ≡ true
  still t i k e = or_right (makes f (value_of k) i) (defined_on t k) e

  -- what an item takes is defined before
  pub taken_before : (t : List Item) (i : Item) → IsTurnedTrail f (i ∷ t) → (of : ValueId) → list_any (λ (y : Taken). y.value.0 == of.0) (item_taken f i) ≡ true → IsDefinedOn f t of
  taken_before t i h of among =
      let y = picked (λ (y : Taken). y.value.0 == of.0) (IsTakenFrom f t) (item_taken f i) (operands_defined d f (accepted_in m n f a) t i h) among in
      subst (IsDefinedOn f t) (same_value y.0.value of (eqb-true y.0.value.0 of.0 y.1)) y.2

  -- what an item makes that is an address
  pub made_by_item : (i : Item) (v : ValueId) → makes f v i ≡ true → IsAddress d f v → MakesAddress d f i v
  made_by_item i v made address = address_made m n f a i v (contained_among v (item_defined f i) (has_among (item_defined f i) v made)) address

  pub located : (t : List Item) → IsTurnedTrail f t → (v : ValueId) → IsDefinedOn f t v → IsAddress d f v → (l : Location) × (locate sources (steps t) v ≡ Some l)
  located [] h v made address = absurd (false≢true made)
  located (i ∷ t) h v made address = at (list_any (makes f v) t) refl (λ w is. located t (turned_older f i t h) w is)
    where
      at : (b : Bool) → list_any (makes f v) t ≡ b → ((w : ValueId) → IsDefinedOn f t w → IsAddress d f w → (l : Location) × (locate sources (steps t) w ≡ Some l))
          → (l : Location) × (locate sources (steps (i ∷ t)) v ≡ Some l)
      at true is before =
          let l = before v is address in
          (l.0, locate_within sources (steps t) (steps (i ∷ t)) (counted_more (defined_on t) (defined_on (i ∷ t)) (still t i) 0 (length sources)) v l.0 l.1)
      at false is before = by (made_by_item i v now address)
        where
          now : makes f v i ≡ true
          now = first (makes f v i) (list_any (makes f v) t) is made
            where
              first : (x y : Bool) → y ≡ false → (x || y) ≡ true → x ≡ true
              first true y e h = refl
              first false y e h = absurd (true≢false (sym h ∙ e))

          more : v.0 < length sources → steps t < steps (i ∷ t)
          more lt = counted_up (defined_on t) (defined_on (i ∷ t)) (still t i) v.0 is made 0 (length sources) (omega arith) (omega arith)

          by : MakesAddress d f i v → (l : Location) × (locate sources (steps (i ∷ t)) v ≡ Some l)
          by (makes_root r) =
              let up = more (root_in_table sources v r) in
              (whole v, locate_within sources (suc (steps t)) (steps (i ∷ t)) (omega arith) v (whole v) (root_found sources (steps t) v r))
          by (makes_member of k part among address_of) =
              let up = more (has_row sources v (λ e. let two : source.Part of k ≡ source.Other = sym part ∙ e in cc)) in
              let l = before of (taken_before t i h of among) address_of in
              let found : locate sources (suc (steps t)) v ≡ Some (extended k l.0) = member_found sources (steps t) v of k part ∙ ap (option_map (extended k)) l.1 in
              (extended k l.0, locate_within sources (suc (steps t)) (steps (i ∷ t)) (omega arith) v (extended k l.0) found)

  pub location_there : (t : List Item) → IsTurnedTrail f t → (v : ValueId) → IsDefinedOn f t v → IsAddress d f v → (l : Location) × (location_of sources v ≡ Some l)
  location_there t h v made address =
      let l = located t h v made address in
      (l.0, locate_within sources (steps t) (length sources) (counted_within (defined_on t) 0 (length sources)) v l.0 l.1)

  -- ---- how an address was named

  pub how_named : (t : List Item) → IsTurnedTrail f t → (v : ValueId) → IsDefinedOn f t v → IsAddress d f v
      → IsRoot (source_at sources v) ⊎ ((of : ValueId) × (k : ℕ) × (source_at sources v ≡ source.Part of k) × IsDefinedOn f t of × IsAddress d f of)
  how_named [] h v made address = absurd (false≢true made)
  how_named (i ∷ t) h v made address = at (makes f v i) refl (λ is. how_named t (turned_older f i t h) v is address)
    where
      later : IsRoot (source_at sources v) ⊎ ((of : ValueId) × (k : ℕ) × (source_at sources v ≡ source.Part of k) × IsDefinedOn f t of × IsAddress d f of)
          → IsRoot (source_at sources v) ⊎ ((of : ValueId) × (k : ℕ) × (source_at sources v ≡ source.Part of k) × IsDefinedOn f (i ∷ t) of × IsAddress d f of)
      later (inl r) = inl r
      later (inr (of, k, part, defined, address_of)) = inr (of, k, part, or_right (makes f of i) (list_any (makes f of) t) defined, address_of)

      by : MakesAddress d f i v → IsRoot (source_at sources v)
          ⊎ ((of : ValueId) × (k : ℕ) × (source_at sources v ≡ source.Part of k) × IsDefinedOn f (i ∷ t) of × IsAddress d f of)
      by (makes_root r) = inl r
      by (makes_member of k part among address_of) =
          inr (of, k, part, or_right (makes f of i) (list_any (makes f of) t) (taken_before t i h of among), address_of)

      at : (b : Bool) → makes f v i ≡ b
          → (IsDefinedOn f t v → IsRoot (source_at sources v) ⊎ ((of : ValueId) × (k : ℕ) × (source_at sources v ≡ source.Part of k) × IsDefinedOn f t of × IsAddress d f of))
          → IsRoot (source_at sources v) ⊎ ((of : ValueId) × (k : ℕ) × (source_at sources v ≡ source.Part of k) × IsDefinedOn f (i ∷ t) of × IsAddress d f of)
      at true is before = by (made_by_item i v is address)
      at false is before = later (before (sym (ap (λ b. b || list_any (makes f v) t) is) ∙ made))

  -- a member's location is one step behind another
  pub member_location : (v of : ValueId) (k : ℕ) → source_at sources v ≡ source.Part of k → (lv : Location) → location_of sources v ≡ Some lv
      → (l : Location) × (location_of sources of ≡ Some l) × (lv ≡ extended k l)
  member_location v of k part lv is = by (length sources) (omega arith) is
    where
      inner : (j : ℕ) (o : Option Location) → locate sources j of ≡ o → option_map (extended k) o ≡ Some lv → (l : Location) × (locate sources (suc j) of ≡ Some l) × (lv ≡ extended k l)
      inner j None found e = absurd (none-some lv e)
      inner j (Some l) found e = (l, locate_one_more sources j of l found, sym (same_Some (extended k l) lv e))

      by : (j : ℕ) → length sources ≤ j → locate sources j v ≡ Some lv → (l : Location) × (locate sources j of ≡ Some l) × (lv ≡ extended k l)
      by zero le e = absurd (none-some lv e)
      by (suc j) le e = inner j (locate sources j of) refl (sym (member_found sources j v of k part) ∙ e)

  pub root_location : (v : ValueId) → IsRoot (source_at sources v) → location_of sources v ≡ Some (whole v)
  root_location v is = by (length sources) (root_in_table sources v is)
    where
      by : (j : ℕ) → v.0 < j → locate sources j v ≡ Some (whole v)
      by zero lt = absurd (omega arith)
      by (suc j) lt = root_found sources j v is

  -- an address's root begins a location
  pub root_begins : (t : List Item) → IsTurnedTrail f t → (v : ValueId) → IsDefinedOn f t v → IsAddress d f v → (l : Location) → location_of sources v ≡ Some l
      → IsRoot (source_at sources l.root)
  root_begins [] h v made address l is = absurd (false≢true made)
  root_begins (i ∷ t) h v made address l is = at (makes f v i) refl (root_begins t (turned_older f i t h))
    where
      at : (b : Bool) → makes f v i ≡ b
          → ((w : ValueId) → IsDefinedOn f t w → IsAddress d f w → (k : Location) → location_of sources w ≡ Some k → IsRoot (source_at sources k.root))
          → IsRoot (source_at sources l.root)
      at true now before = by (made_by_item i v now address)
        where
          by : MakesAddress d f i v → IsRoot (source_at sources l.root)
          by (makes_root r) =
              let same : l ≡ whole v = same_Some l (whole v) (sym is ∙ root_location v r) in subst (λ (k : Location). IsRoot (source_at sources k.root)) (sym same) r
          by (makes_member of k part among address_of) =
              let inner = member_location v of k part l is in
              subst (λ (x : Location). IsRoot (source_at sources x.root)) (sym inner.2)
              (before of (taken_before t i h of among) address_of inner.0 inner.1)
      at false now before = before v (sym (ap (λ b. b || list_any (makes f v) t) now) ∙ made) address l is

pub addresses_named : AreAddressesNamed
addresses_named m n f a t h v made address = by (how_named m n f a t (are_trails f (accepted_in m n f a).once t h) v made address)
  where
    by : IsRoot (source_at (sources_of (declarations_of m) f) v)
        ⊎ ((of : ValueId) × (k : ℕ) × (source_at (sources_of (declarations_of m) f) v ≡ source.Part of k) × IsDefinedOn f t of × IsAddress (declarations_of m) f of)
        → IsNamed (sources_of (declarations_of m) f) v
    by (inl r) = root r
    by (inr (of, k, part, defined, address_of)) = member of k part

pub roots_located : AreRootsLocated
roots_located m n f a t h v made is = root_location m n f a v is

pub members_located : AreMembersLocated
members_located m n f a t h v made address of k part = by (how_named m n f a t turned v made address)
  where
    turned : IsTurnedTrail f t
    turned = are_trails f (accepted_in m n f a).once t h

    one_source : (x : Source) → source_at (sources_of (declarations_of m) f) v ≡ x → IsRoot x → ⊥
    one_source _ is slot = let two : source.Part of k ≡ source.Slot _ = sym part ∙ is in cc
    one_source _ is argument = let two : source.Part of k ≡ source.Argument _ _ = sym part ∙ is in cc
    one_source _ is field = let two : source.Part of k ≡ source.Field _ _ _ = sym part ∙ is in cc

    by : IsRoot (source_at (sources_of (declarations_of m) f) v)
        ⊎ ((w : ValueId) × (j : ℕ) × (source_at (sources_of (declarations_of m) f) v ≡ source.Part w j) × IsDefinedOn f t w × IsAddress (declarations_of m) f w)
        → IsMemberOf (declarations_of m) f t v of k
    by (inl r) = absurd (one_source _ refl r)
    by (inr (w, j, other, defined, address_of)) =
        let two : source.Part w j ≡ source.Part of k = sym other ∙ part in
        let same : w ≡ of = cc in
        let lv = location_there m n f a t turned v made address in
        let l = member_location m n f a v of k part lv.0 lv.1 in
        record { defined = subst (IsDefinedOn f t) same defined; address = subst (IsAddress (declarations_of m) f) same address_of; location = l.0; at = l.1; is = lv.1 ∙ ap (λ x. Some x) l.2 }
