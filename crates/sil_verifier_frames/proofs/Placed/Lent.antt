-- What a frame that calls lends: the places hold what is asked of them, and of each two that aren't shared both the places are apart.
use Rattle.std.proofs.Common.{◌≡◌, ◌⊎◌, ⊎_elim, inl, inr, ◌==◌, ◌&&◌, ◌||◌, ◌++◌, ℕ, List, [], ◌∷◌, Bool, true, false, Some, refl, sym, ap, ◌∙◌, subst, arith, eqb-true}
use Rattle.std.specs.List.{starts_with}
use Rattle.std.proofs.lemmas.Bool.{and_from, or_left, or_parts, true≢false}
use Rattle.std.proofs.lemmas.List.{append_assoc}
use Rattle.holder_model_laws.specs.holder_model.Calling.{are_as_before, is_as_before}
use Rattle.holder_model_laws.specs.holder_model.Frames.{Frame, LentPlace}
use Rattle.holder_model_laws.specs.holder_model.MemoryEffects.{holds}
use Rattle.holder_model_laws.specs.holder_model.States.{Task}
use Rattle.holder_model_laws.specs.memory_rules_accesses.Locations.{do_overlap, location_of, meet, same_step}
use Rattle.holder_model_laws.specs.memory_rules_accesses.Operations.{operations_of}
use Rattle.holder_model_laws.specs.memory_rules_accesses.Rows.{has_steps, is_part}
use Rattle.holder_model_laws.specs.memory_rules_accesses.Sources.{is_trivial_at, sources_of}
use Rattle.holder_model_laws.specs.memory_rules_accesses.declared.access.Operated.{Operated}
use Rattle.holder_model_laws.specs.memory_rules_accesses.declared.access.Operation.TheVariants.{Handed}
use Rattle.holder_model_laws.specs.memory_rules_accesses.declared.location.Location.{Location}
use Rattle.sil_verifier_trails.specs.AcceptedPlaces.inner.Loans.{AreApartByCells, IsBefore}
use Rattle.sil_verifier_trails.specs.sil_verifier_values.inner.Known.{IsAcceptedBody}
use Rattle.argument_conventions.specs.declared.row.Content.{Content}
use Rattle.argument_conventions.specs.declared.row.Content.TheVariants as content
use Rattle.holder_model_laws.specs.HolderLaws.inner.Cells.Cells.{AreApart, IsPlace, has_cell}
use Rattle.holder_model_laws.proofs.HolderLaws.Cells.PlaceCells.{cell_within, not_cell, there_test}
use Rattle.numbered_form.proofs.PointChecks.Among.{Among}
use Rattle.holder_model_values.specs.RunValues.Memory.{Memory}
use Rattle.holder_model_values.specs.RunValues.Places.{Place, is_empty_at}
use Rattle.holder_model_values.specs.RunValues.Trivial.{is_trivial}
use Rattle.sil_ast.specs.declared.function.Function.{Function}
use Rattle.sil_ast.specs.declared.inst.Inst.{Inst}
use Rattle.sil_ast.specs.declared.module.Module.{Module}
use Rattle.sil_ast.specs.declared.place.PointId.{PointId}
use Rattle.sil_types_declarations.specs.TypeDefinitions.Declarations.{declarations_of}
use Rattle.sil_verifier_frames.specs.inner.Placed.FramePlaces.{HoldsPlaces, IsPartAt, Names}
use Rattle.sil_verifier_frames.specs.inner.Placed.PlaceStates.{AreLentBy}
use Rattle.sil_verifier_frames.specs.inner.Placed.Roots.{is_shared}
use Rattle.sil_verifier_frames.specs.inner.Placed.TrailLaws.{TrailLaws}
use Rattle.sil_verifier_frames.proofs.Placed.Asking.{holds_so}
use Rattle.sil_verifier_frames.proofs.Placed.Given.{ArePairsApart, IsApartFrom}
use Rattle.sil_verifier_frames.proofs.Placed.HandedOver.{AreInside, each_all}
use Rattle.sil_verifier_frames.proofs.Placed.Lending.{IsCallAt, IsLentBy, found_empty, found_full, found_there, is_alone, is_whole, lent_by_one}
use Rattle.sil_verifier_frames.proofs.Placed.Reading.{IsWithin, as_the_root, operand_within}

-- two parts of a place neither of which is within the other
parts_apart : AreApartByCells → (whole p q : Place) (a b : List ℕ) → IsPartAt whole a p → IsPartAt whole b q → starts_with same_step a b ≡ false → starts_with same_step b a ≡ false
    → AreApart p q
parts_apart law whole p q a b one other no_b no_a n has = not_cell q n (λ inside. at inside (law whole.shape p.shape q.shape a b one.shape other.shape no_b no_a))
  where
    at : has_cell q n ≡ true → IsBefore whole.shape a p.shape b ⊎ IsBefore whole.shape b q.shape a → ⊥
    at inside (inl before) =
        let in_p = (cell_within p n has).1 in
        let in_q = (cell_within q n inside).0 in
        let fp = one.first in
        let fq = other.first in
        omega (arith, in_p, in_q, fp, fq, before)
    at inside (inr before) =
        let in_p = (cell_within p n has).0 in
        let in_q = (cell_within q n inside).1 in
        let fp = one.first in
        let fq = other.first in
        omega (arith, in_p, in_q, fp, fq, before)

module _ (laws : TrailLaws) (m : Module) (number : ℕ) (f : Function) (body : IsAcceptedBody m number f) (point : PointId) (x : Inst)
    (memory : Memory) (frame : Frame) (rest : List (Task Frame)) (lent : List LentPlace) where
  -- the frame calls, and these are the places that it lends
  pub record Calling : Type 0 where
    pub call : IsCallAt laws m number f body frame.trail point x
    pub holds : HoldsPlaces m memory f frame rest
    pub none_lent : frame.lent ≡ []
    pub by : AreLentBy frame.entries (operations_of x) lent
    pub shaped : (o : Operated) (c : Among o (operations_of x)) (l : LentPlace) → Among l lent → Names frame.entries o.address l.place
        → is_part (call.located o c).location ≡ false → is_trivial_at (sources_of (declarations_of m) f) (call.located o c).location.root ≡ true → is_trivial l.place.shape ≡ true

  module _ (s : Calling) where
    pub lent_at : (l : LentPlace) → Among l lent → IsLentBy frame.entries (operations_of x) l
    lent_at l c = lent_by_one frame.entries (operations_of x) lent s.by l c

    pub within_of : (o : Operated) (c : Among o (operations_of x)) (p : Place) → Names frame.entries o.address p
        → IsWithin m memory f frame rest o.address (s.call.located o c).location p
    within_of o c p names =
        let at = s.call.located o c in
        operand_within m memory f frame rest s.holds o.address at.location at.is at.there at.made p names

    pub lent_within : (l : LentPlace) (c : Among l lent)
        → IsWithin m memory f frame rest (lent_at l c).by.address (s.call.located (lent_at l c).by (lent_at l c).among).location l.place
    lent_within l c = within_of (lent_at l c).by (lent_at l c).among l.place (lent_at l c).names

    pub lent_inside : AreInside memory lent
    lent_inside l c = ((lent_within l c).home, (lent_within l c).inside)

    -- the place is as full as its operation finds it
    pub lent_found : (l : LentPlace) → Among l lent → (on : Bool) × IsPlace on memory l.place
        × (l.row.before ≡ content.Full → on ≡ true)
        × (l.row.before ≡ content.Empty → (on ≡ false) ⊎ (is_trivial l.place.shape ≡ true))
    lent_found l c =
        let by = lent_at l c in
        let found = found_there laws m number f body frame.trail point x s.call by.by by.among in
        let at = s.call.located by.by by.among in (
          found.on,
          as_the_root m memory f frame rest s.holds s.none_lent by.by.address at.location l.place (lent_within l c) found.on found.was,
          λ e. found_full laws m number f body frame.trail point x s.call by.by by.among l.row by.operation e,
          λ e. by_trivial by e (is_trivial_at (sources_of (declarations_of m) f) at.location.root) refl,
        )
      where
        by_trivial : (by : IsLentBy frame.entries (operations_of x) l) → l.row.before ≡ content.Empty → (b : Bool)
            → is_trivial_at (sources_of (declarations_of m) f) (s.call.located by.by by.among).location.root ≡ b
            → ((found_there laws m number f body frame.trail point x s.call by.by by.among).on ≡ false) ⊎ (is_trivial l.place.shape ≡ true)
        by_trivial by e true is = inr (s.shaped by.by by.among l c by.names
            (is_whole laws m number f body frame.trail point x s.call by.by by.among l.row by.operation e) is)
        by_trivial by e false is = inl (found_empty laws m number f body frame.trail point x s.call by.by by.among l.row by.operation e is)

    -- so all hold what is asked
    pub all_as_before : are_as_before memory lent ≡ true
    all_as_before = each_all (is_as_before memory) lent (λ l c. one l c)
      where
        one : (l : LentPlace) → Among l lent → is_as_before memory l ≡ true
        one l c =
            let found = lent_found l c in
            and_from _ (holds memory l.row.before l.place) (there_test memory l.place found.0 found.1) (at found.0 found.1 found.2 found.3 l.row.before refl)
          where
            at : (on : Bool) → IsPlace on memory l.place → (l.row.before ≡ content.Full → on ≡ true)
                → (l.row.before ≡ content.Empty → (on ≡ false) ⊎ (is_trivial l.place.shape ≡ true)) → (b : Content) → l.row.before ≡ b → holds memory b l.place ≡ true
            at on is full empty content.Full e = holds_so memory l.place on is content.Full (full e)
            at on is full empty content.Empty e = ⊎_elim
                (λ (off : on ≡ false). holds_so memory l.place on is content.Empty off)
                (λ (t : is_trivial l.place.shape ≡ true). or_left (is_trivial l.place.shape) (is_empty_at memory l.place) t)
                (empty e)

    -- ---- apart

    within_apart : (o q : Operated) (c : Among o (operations_of x)) (e : Among q (operations_of x)) (one other : LentPlace)
        → o.operation ≡ Handed one.row → q.operation ≡ Handed other.row → Names frame.entries o.address one.place → Names frame.entries q.address other.place
        → (one.row.shared && other.row.shared) ≡ false
        → do_overlap (sources_of (declarations_of m) f) o.address q.address ≡ false → AreApart one.place other.place
    within_apart o q c e one other oh qh on qn own no_overlap = by (lo.root.0 == lq.root.0) refl
      where
        lo : Location
        lo = (s.call.located o c).location

        lq : Location
        lq = (s.call.located q e).location

        wo : IsWithin m memory f frame rest o.address lo one.place
        wo = within_of o c one.place on

        wq : IsWithin m memory f frame rest q.address lq other.place
        wq = within_of q e other.place qn

        meets : (lo.root.0 == lq.root.0 && (starts_with same_step lo.path lq.path || starts_with same_step lq.path lo.path)) ≡ false
        meets = sym (ap (λ a. meet a (location_of (sources_of (declarations_of m) f) q.address)) (s.call.located o c).is
            ∙ ap (meet (Some lo)) (s.call.located q e).is) ∙ no_overlap

        -- both roots are shared only where both places are
        roots_own : (is_shared (declarations_of m) f lo.root && is_shared (declarations_of m) f lq.root) ≡ false
        roots_own = at one.row.shared refl other.row.shared refl own
          where
            at : (a : Bool) → one.row.shared ≡ a → (b : Bool) → other.row.shared ≡ b → (one.row.shared && other.row.shared) ≡ false
                → (is_shared (declarations_of m) f lo.root && is_shared (declarations_of m) f lq.root) ≡ false
            at false oa b ob h = ap (λ z. z && is_shared (declarations_of m) f lq.root) (is_alone laws m number f body frame.trail point x s.call o c one.row oh oa)
            at true oa false ob h = ap (λ z. is_shared (declarations_of m) f lo.root && z) (is_alone laws m number f body frame.trail point x s.call q e other.row qh ob)
                ∙ never (is_shared (declarations_of m) f lo.root)
              where
                never : (b : Bool) → (b && false) ≡ false
                never true = refl
                never false = refl
            at true oa true ob h = absurd (true≢false (sym (ap (λ z. z && other.row.shared) oa ∙ ob) ∙ h))

        by : (b : Bool) → (lo.root.0 == lq.root.0) ≡ b → AreApart one.place other.place
        by false differ = λ n has. not_cell other.place n (λ inside.
            true≢false (sym (wq.within n inside)
            ∙ s.holds.apart lo.root lq.root (s.call.located o c).there (s.call.located q e).there differ roots_own wo.whole wq.whole wo.names wq.names n (wo.within n has)))
        by true same = paths (or_parts (starts_with same_step lo.path lq.path) (starts_with same_step lq.path lo.path)
            (sym (ap (λ b. b && (starts_with same_step lo.path lq.path || starts_with same_step lq.path lo.path)) same) ∙ meets))
          where
            root : lo.root ≡ lq.root
            root = ap (λ (k : ℕ). record { 0 = k }) (eqb-true lo.root.0 lq.root.0 same)

            -- a path that nothing starts leads somewhere
            has_path : (l k : Location) → starts_with same_step l.path k.path ≡ false → starts_with same_step k.path l.path ≡ false → (is_part l ≡ true) × (is_part k ≡ true)
            has_path l k one two = at l.path k.path one two
              where
                at : (a b : List ℕ) → starts_with same_step a b ≡ false → starts_with same_step b a ≡ false → (has_steps a ≡ true) × (has_steps b ≡ true)
                at [] [] one two = absurd (true≢false one)
                at [] (j ∷ b) one two = absurd (true≢false two)
                at (i ∷ a) [] one two = absurd (true≢false one)
                at (i ∷ a) (j ∷ b) one two = (refl, refl)

            paths : (starts_with same_step lo.path lq.path ≡ false) × (starts_with same_step lq.path lo.path ≡ false) → AreApart one.place other.place
            paths clear =
                let parts = has_path lo lq clear.0 clear.1 in
                let whole = wo.whole in
                parts_apart s_law whole one.place other.place lo.path lq.path
                (s.holds.parts o.address lo (s.call.located o c).is parts.0 (s.call.located o c).made whole one.place wo.names on)
                (s.holds.parts q.address lq (s.call.located q e).is parts.1 (s.call.located q e).made whole other.place
                (subst (λ r. Names frame.entries r whole) root wo.names) qn)
                clear.0 clear.1
              where
                s_law : AreApartByCells
                s_law = laws.parts_apart

    pairs_from : (front os : List Operated) (ls : List LentPlace) → operations_of x ≡ front ++ os → AreLentBy frame.entries os ls → ArePairsApart ls
    pairs_from front [] [] is h = tt
    pairs_from front [] (l ∷ ls) is h = absurd h
    pairs_from front (o ∷ os) [] is h = absurd h
    pairs_from front (o ∷ os) (l ∷ ls) is h = (λ k c. first k c (lent_by_one frame.entries os ls h.2 k c), pairs_from (front ++ o ∷ []) os ls (is ∙ sym (append_assoc front (o ∷ []) os)) h.2)
      where
        split : (ys : List Operated) (q : Operated) → Among q ys → (between more : List Operated) × (ys ≡ between ++ q ∷ more)
        split [] q c = absurd c
        split (y ∷ ys) q (inl same) = ([], ys, ap (λ z. z ∷ ys) (sym same))
        split (y ∷ ys) q (inr later) = let s = split ys q later in (y ∷ s.0, s.1, ap (λ zs. y ∷ zs) s.2)

        among_front : (front : List Operated) (q : Operated) (ys : List Operated) → Among q ys → Among q (front ++ ys)
        among_front [] q ys c = c
        among_front (z ∷ front) q ys c = inr (among_front front q ys c)

        first : (k : LentPlace) → Among k ls → IsLentBy frame.entries os k → IsApartFrom l k
        first k c by own =
            let s = split os by.by by.among in
            within_apart o by.by
            (subst (Among o) (sym is) (among_front front o (o ∷ os) (inl refl)))
            (subst (Among by.by) (sym is) (among_front front by.by (o ∷ os) (inr by.among)))
            l k h.0 by.operation h.1 by.names own
            (the_call.apart front s.0 s.1 o by.by l.row k.row (is ∙ ap (λ ys. front ++ o ∷ ys) s.2) h.0 by.operation own)
          where
            the_call : IsCallAt laws m number f body frame.trail point x
            the_call = s.call

    pub all_apart : ArePairsApart lent
    all_apart = pairs_from [] (operations_of x) lent refl s.by
