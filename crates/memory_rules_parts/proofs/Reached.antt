-- An access means nothing to a part with which it has no key in common.
use Rattle.std.proofs.Common.{◌≡◌, ℕ, List, [], ◌∷◌, refl, sym, ap, ◌∙◌, subst, Bool, true, false, Option, Some, None, arith}
use Rattle.std.specs.Prelude.{◌&&◌, Contains, cond, not}
use Rattle.std.specs.List.{flat_map, list_any}
use Rattle.std.proofs.lemmas.Bool.{and_left, and_parts, and_right, eqb-true, false_from_ne_true, or_from}
use Rattle.std.proofs.lemmas.List.Elements.{Contains-append_left, Contains-append_right}
use Rattle.sil_ast.specs.declared.place.ValueId.{ValueId}
use Rattle.ownership_kinds_chains.specs.OwnershipChains.Facts.{is_guaranteed, value_of}
use Rattle.ownership_kinds_chains.specs.declared.ownership_chains.facts.Facts.{Facts}
use Rattle.memory_rules_accesses.specs.declared.access.Access.{Access}
use Rattle.memory_rules_accesses.specs.declared.access.Access.TheVariants.{Ends, Begins, Allocates, Deallocates, Given, Does, Mentions}
use Rattle.memory_rules_accesses.specs.declared.access.Operation.{Operation}
use Rattle.memory_rules_accesses.specs.declared.access.Operation.TheVariants.{FirstWrite, Read, Lend, Write, TrivialStore, Handed, Take}
use Rattle.memory_rules_accesses.specs.declared.columns.Allowance.{Allowance}
use Rattle.memory_rules_accesses.specs.declared.location.Cell.{Cell}
use Rattle.memory_rules_accesses.specs.declared.location.Location.{Location}
use Rattle.memory_rules_accesses.specs.declared.source.Source.{Source}
use Rattle.memory_rules_accesses.specs.Locations.{cell_of, location_of, meet, object_built}
use Rattle.memory_rules_accesses.specs.Rows.{is_part}
use Rattle.memory_rules_accesses.specs.Sources.{is_slot}
use Rattle.reach_engine_marks.specs.declared.path_patterns.mark.Mark.{Mark}
use Rattle.memory_rules_parts.specs.Building.{builds, fills, goes_by_borrow, is_forbidden, is_object_of, takes_borrow, takes_object}
use Rattle.memory_rules_parts.specs.Contents.{at_location, same_cell, same_field}
use Rattle.memory_rules_parts.specs.inner.Keys.{built_key, keys_at, keys_of_access, keys_of_part, object_key, root_key}
use Rattle.memory_rules_parts.specs.Loans.{disturbed_mark, writes, writes_at}
use Rattle.memory_rules_parts.specs.Parts.{means}
use Rattle.memory_rules_parts.specs.Switches.{is_same, is_turned_on, when}
use Rattle.memory_rules_parts.specs.declared.key.Key.{Key}
use Rattle.memory_rules_parts.specs.declared.key.Key.TheVariants.{Turned, Named, Operated, Written}
use Rattle.memory_rules_parts.specs.declared.part.Part.{Part}
use Rattle.memory_rules_parts.specs.declared.part.Part.TheVariants.{Contents, Allocation, Lent, Building, InScope, InSlot}

abbrev pub AreApart : List Key → List Key → Type 0
AreApart xs ys = (key : Key) → Contains xs key → Contains ys key → ⊥

here : {X : Type 0} (x : X) (xs : List X) → Contains (x ∷ xs) x
here x xs = (0, omega arith, refl)

behind : {X : Type 0} (x y : X) (xs : List X) → Contains xs y → Contains (x ∷ xs) y
behind x y xs there = Contains-append_right (x ∷ []) xs y there

second : {X : Type 0} (x y : X) (xs : List X) → Contains (x ∷ y ∷ xs) y
second x y xs = behind x y (y ∷ xs) (here y xs)

third : {X : Type 0} (x y z : X) (xs : List X) → Contains (x ∷ y ∷ z ∷ xs) z
third x y z xs = behind x z (y ∷ z ∷ xs) (second y z xs)

same_value : (v w : ValueId) → is_same v w ≡ true → v ≡ w
same_value v w e = ap value_of (eqb-true v.0 w.0 e)

-- another value than the one that is asked for
other_value : (v w : ValueId) → (v ≡ w → ⊥) → is_same v w ≡ false
other_value v w ne = false_from_ne_true (is_same v w) (λ e. ne (same_value v w e))

no_mark : (test : Bool) (mark : Mark) → test ≡ false → when test mark ≡ None
no_mark test mark e = ap (λ b. when b mark) e

unmarked : (v w : ValueId) (mark : Mark) → (v ≡ w → ⊥) → when (is_same v w) mark ≡ None
unmarked v w mark ne = no_mark (is_same v w) mark (other_value v w ne)

same_fields : (a b : Option ℕ) → same_field a b ≡ true → a ≡ b
same_fields None None e = refl
same_fields None (Some k) e = cc
same_fields (Some k) None e = cc
same_fields (Some k) (Some n) e = ap Some (eqb-true k n e)

abbrev cell_at : ValueId → Option ℕ → Cell
cell_at v field = record { subject = v; field = field }

same_cells : (a b : Cell) → same_cell a b ≡ true → a ≡ b
same_cells a b e =
    let parts = and_parts (is_same a.subject b.subject) (same_field a.field b.field) e in
    ap (λ v. cell_at v a.field) (same_value a.subject b.subject parts.0) ∙ ap (cell_at b.subject) (same_fields a.field b.field parts.1)

other_cell : (a b : Cell) → (a ≡ b → ⊥) → same_cell a b ≡ false
other_cell a b ne = false_from_ne_true (same_cell a b) (λ e. ne (same_cells a b e))

-- a key of one that is a list's first
turned : (v w : ValueId) (xs ys : List Key) → AreApart (Turned v ∷ xs) (Turned w ∷ ys) → v ≡ w → ⊥
turned v w xs ys apart e = apart (Turned v) (here (Turned v) xs) (subst (λ x. Contains (Turned x ∷ ys) (Turned v)) e (here (Turned v) ys))

named_second : (v w : ValueId) (k : Key) (xs ys : List Key) → AreApart (Named v ∷ xs) (k ∷ Named w ∷ ys) → v ≡ w → ⊥
named_second v w k xs ys apart e = apart (Named v) (here (Named v) xs) (subst (λ x. Contains (k ∷ Named x ∷ ys) (Named v)) e (second k (Named v) ys))

module _ (sources : List Source) where
  operated_unlike : (o : Operation) (l : Location) (cell : Cell) (keys : List Key) → Contains keys (Operated cell) → AreApart (keys_at sources o (Some l)) keys → cell_of sources l.root ≡ cell → ⊥
  operated_unlike o l cell keys there apart e =
      apart (Operated (cell_of sources l.root)) (here (Operated (cell_of sources l.root)) (cond (writes true o) (Written l.root ∷ []) [])) (subst (λ x. Contains keys (Operated x)) (sym e) there)

  at_other : (o : Operation) (l : Option Location) (cell : Cell) (keys : List Key) → Contains keys (Operated cell) → AreApart (keys_at sources o l) keys → at_location sources cell o l ≡ None
  at_other o None cell keys there apart = refl
  at_other o (Some l) cell keys there apart = no_mark (same_cell (cell_of sources l.root) cell) _ (other_cell (cell_of sources l.root) cell (operated_unlike o l cell keys there apart))

  fills_other : (o : Operation) (l : Option Location) (cell : Cell) (keys : List Key) → Contains keys (Operated cell) → AreApart (keys_at sources o l) keys → fills sources cell o l ≡ false
  fills_other o l cell keys there apart = ap is_turned_on (at_other o l cell keys there apart)

  -- whatever is written at a part is written at the whole
  no_write : (part : Bool) (o : Operation) → writes true o ≡ false → writes part o ≡ false
  no_write part FirstWrite e = refl
  no_write part Read e = refl
  no_write part Lend e = refl
  no_write part Write e = cc
  no_write part TrivialStore e = cc
  no_write part (Handed row) e = e
  no_write part Take e = cc

  meet_other : (k : Key) (scope : ValueId) (l lent : Option Location) → AreApart (k ∷ root_key l) (Turned scope ∷ root_key lent) → meet l lent ≡ false
  meet_other k scope None lent apart = refl
  meet_other k scope (Some l) None apart = refl
  meet_other k scope (Some l) (Some lent) apart =
      and_left (is_same l.root lent.root) _
      (other_value l.root lent.root
      (λ same. apart (Written l.root) (second k (Written l.root) [])
      (subst (λ v. Contains (Turned scope ∷ Written v ∷ []) (Written l.root)) same (second (Turned scope) (Written l.root) []))))

  writes_other : (scope : ValueId) (o : Operation) (l lent : Option Location) → AreApart (keys_at sources o l) (Turned scope ∷ root_key lent) → (writes_at l o && meet l lent) ≡ false
  writes_other scope o None lent apart = refl
  writes_other scope o (Some l) lent apart = at (writes true o) refl
    where
      at : (b : Bool) → writes true o ≡ b → (writes (is_part l) o && meet (Some l) lent) ≡ false
      at true e =
          and_right (writes (is_part l) o) (meet (Some l) lent)
          (meet_other (Operated (cell_of sources l.root)) scope (Some l) lent
          (λ key c. apart key (subst (λ b. Contains (Operated (cell_of sources l.root) ∷ cond b (Written l.root ∷ []) []) key) (sym e) c)))
      at false e = and_left (writes (is_part l) o) (meet (Some l) lent) (no_write (is_part l) o e)

  module _ (object : ValueId) (field : ℕ) where
    abbrev keys : List Key
    keys = keys_of_part sources (Building object field)

    is_named : Contains keys (Named object)
    is_named = second (Turned object) (Named object) (Operated (cell_at object (Some field)) ∷ [])

    other_object : (built : Option ValueId) → AreApart (object_key built) keys → is_object_of object built ≡ false
    other_object None apart = refl
    other_object (Some o) apart = other_value o object (λ e. apart (Named o) (here (Named o) []) (subst (λ x. Contains keys (Named x)) (sym e) is_named))

    none_builds : (bases : List ValueId) → AreApart (flat_map (built_key sources) bases) keys → list_any (builds sources object) bases ≡ false
    none_builds [] apart = refl
    none_builds (b ∷ bases) apart =
        or_from (builds sources object b) (list_any (builds sources object) bases)
        (other_object (object_built sources b) (λ key c. apart key (Contains-append_left (built_key sources b) (flat_map (built_key sources) bases) key c)))
        (none_builds bases (λ key c. apart key (Contains-append_right (built_key sources b) (flat_map (built_key sources) bases) key c)))

    unforbidden : (facts : ValueId → Facts) (v : ValueId) (a : Allowance) → AreApart (Named v ∷ flat_map (built_key sources) (facts v).bases) keys → is_forbidden sources facts object v a ≡ false
    unforbidden facts v a apart =
        let none : list_any (builds sources object) (facts v).bases ≡ false =
        none_builds (facts v).bases (λ key c. apart key (behind (Named v) key (flat_map (built_key sources) (facts v).bases) c)) in
        or_from (is_same v object && not (takes_object a)) (goes_by_borrow sources (facts v) object && not (builds sources object v && takes_borrow a))
        (and_left (is_same v object) (not (takes_object a))
        (other_value v object (λ e. apart (Named v) (here (Named v) (flat_map (built_key sources) (facts v).bases)) (subst (λ x. Contains keys (Named x)) (sym e) is_named))))
        (and_left (goes_by_borrow sources (facts v) object) (not (builds sources object v && takes_borrow a))
        (and_right (is_guaranteed (facts v).kind) (list_any (builds sources object) (facts v).bases) none))

  module _ (facts : ValueId → Facts) where
    pub unreached : (p : Part) (a : Access) → AreApart (keys_of_access sources facts a) (keys_of_part sources p) → means sources facts p a ≡ None
    unreached (Contents cell trivial left) (Ends v) apart = refl
    unreached (Contents cell trivial left) (Begins v) apart = refl
    unreached (Contents cell trivial left) (Allocates v) apart = unmarked v cell.subject _ (turned v cell.subject [] (Operated cell ∷ []) apart)
    unreached (Contents cell trivial left) (Deallocates v) apart =
        no_mark (is_slot sources v && is_same v cell.subject) _
        (and_right (is_slot sources v) (is_same v cell.subject)
        (other_value v cell.subject (turned v cell.subject (root_key (location_of sources v)) (Operated cell ∷ []) apart)))
    unreached (Contents cell trivial left) (Given v content) apart = unmarked v cell.subject _ (turned v cell.subject [] (Operated cell ∷ []) apart)
    unreached (Contents cell trivial left) (Does x) apart =
        at_other x.operation (location_of sources x.address) cell (keys_of_part sources (Contents cell trivial left)) (second (Turned cell.subject) (Operated cell) []) apart
    unreached (Contents cell trivial left) (Mentions v a) apart = refl
    unreached (Allocation slot) (Ends v) apart = refl
    unreached (Allocation slot) (Begins v) apart = refl
    unreached (Allocation slot) (Allocates v) apart = unmarked v slot _ (turned v slot [] [] apart)
    unreached (Allocation slot) (Deallocates v) apart = unmarked v slot _ (turned v slot (root_key (location_of sources v)) [] apart)
    unreached (Allocation slot) (Given v content) apart = refl
    unreached (Allocation slot) (Does x) apart = refl
    unreached (Allocation slot) (Mentions v a) apart = refl
    unreached (Lent scope address) (Ends v) apart = unmarked v scope _ (turned v scope [] _ apart)
    unreached (Lent scope address) (Begins v) apart = unmarked v scope _ (turned v scope [] _ apart)
    unreached (Lent scope address) (Allocates v) apart = refl
    unreached (Lent scope address) (Deallocates v) apart = ap disturbed_mark (meet_other (Turned v) scope (location_of sources v) (location_of sources address) apart)
    unreached (Lent scope address) (Given v content) apart = refl
    unreached (Lent scope address) (Does x) apart = ap disturbed_mark (writes_other scope x.operation (location_of sources x.address) (location_of sources address) apart)
    unreached (Lent scope address) (Mentions v a) apart = refl
    unreached (Building object field) (Ends v) apart = refl
    unreached (Building object field) (Begins v) apart = refl
    unreached (Building object field) (Allocates v) apart = unmarked v object _ (turned v object [] (Named object ∷ Operated (cell_at object (Some field)) ∷ []) apart)
    unreached (Building object field) (Deallocates v) apart = refl
    unreached (Building object field) (Given v content) apart = refl
    unreached (Building object field) (Does x) apart =
        no_mark (fills sources (cell_at object (Some field)) x.operation (location_of sources x.address)) _
        (fills_other x.operation (location_of sources x.address) (cell_at object (Some field)) (keys_of_part sources (Building object field))
        (third (Turned object) (Named object) (Operated (cell_at object (Some field))) []) apart)
    unreached (Building object field) (Mentions v a) apart = no_mark (is_forbidden sources facts object v a) _ (unforbidden object field facts v a apart)
    unreached (InScope address scope) (Ends v) apart = unmarked v scope _ (turned v scope [] (Named address ∷ []) apart)
    unreached (InScope address scope) (Begins v) apart = unmarked v scope _ (turned v scope [] (Named address ∷ []) apart)
    unreached (InScope address scope) (Allocates v) apart = refl
    unreached (InScope address scope) (Deallocates v) apart = refl
    unreached (InScope address scope) (Given v content) apart = refl
    unreached (InScope address scope) (Does x) apart = refl
    unreached (InScope address scope) (Mentions v a) apart = unmarked v address _ (named_second v address (Turned scope) _ [] apart)
    unreached (InSlot address slot) (Ends v) apart = refl
    unreached (InSlot address slot) (Begins v) apart = refl
    unreached (InSlot address slot) (Allocates v) apart = unmarked v slot _ (turned v slot [] (Named address ∷ []) apart)
    unreached (InSlot address slot) (Deallocates v) apart = unmarked v slot _ (turned v slot (root_key (location_of sources v)) (Named address ∷ []) apart)
    unreached (InSlot address slot) (Given v content) apart = refl
    unreached (InSlot address slot) (Does x) apart = refl
    unreached (InSlot address slot) (Mentions v a) apart = unmarked v address _ (named_second v address (Turned slot) _ [] apart)
