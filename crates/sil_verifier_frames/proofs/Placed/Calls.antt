-- A call: the frame that waits, the new frame, and those below hold what they should while the callee begins.
use Rattle.std.proofs.Common.{◌≡◌, ◌⊎◌, ⊎_elim, inl, inr, ◌≤◌, ℕ, List, [], ◌∷◌, length, Bool, true, false, not, Some, refl, sym, ap, ◌∙◌, subst, arith, map, slice_get}
use Rattle.std.specs.List.{list_any}
use Rattle.std.proofs.lemmas.Bool.{and_from, and_parts, and_right, false≢true, or_cases, true≢false}
use Rattle.holder_model_laws.specs.holder_model.Calling.{handed_over, places_given}
use Rattle.holder_model_laws.specs.holder_model.Effects.{effect_of}
use Rattle.holder_model_laws.specs.holder_model.Frames.{Entry, Frame, Gone, LentPlace, entry_at}
use Rattle.holder_model_laws.specs.holder_model.Standing.{stands_at}
use Rattle.holder_model_laws.specs.holder_model.StepParts.{new_frame}
use Rattle.holder_model_laws.specs.holder_model.States.{Drops, Finishes, Runs, Task}
use Rattle.holder_model_laws.specs.holder_model.declared.row_effect.RowEffect.TheVariants.{CallsFunction}
use Rattle.holder_model_laws.specs.memory_rules_accesses.Sources.{source_at, sources_of}
use Rattle.holder_model_laws.specs.memory_rules_accesses.declared.source.Source.TheVariants as source
use Rattle.sil_verifier_trails.specs.AcceptedPlaces.inner.Cells.{is_full}
use Rattle.sil_verifier_trails.specs.sil_verifier_values.inner.Known.{IsAcceptedBody}
use Rattle.argument_conventions.specs.declared.row.AddressRow.{AddressRow}
use Rattle.argument_conventions.specs.declared.row.Content.{Content}
use Rattle.argument_conventions.specs.declared.row.Content.TheVariants as content
use Rattle.sil_cfg_items.specs.Items.{item_defined}
use Rattle.sil_cfg_items.specs.Parts.{inst_at}
use Rattle.holder_model_laws.specs.HolderLaws.inner.Cells.Cells.{IsCell, IsInside, cell_at, has_cell}
use Rattle.holder_model_laws.proofs.HolderLaws.Cells.PlaceCells.{not_cell}
use Rattle.holder_model_laws.specs.ownership_kinds_chains.OwnershipChains.Facts.{has}
use Rattle.numbered_form.proofs.PointChecks.Among.{Among, map_among}
use Rattle.holder_model_values.specs.RunValues.Memory.{Memory}
use Rattle.holder_model_values.specs.RunValues.Places.{OnStack, Place}
use Rattle.sil_ast.specs.declared.function.Function.{Function}
use Rattle.sil_ast.specs.declared.inst.Inst.{Inst}
use Rattle.sil_ast.specs.declared.module.Module.{Module}
use Rattle.sil_ast.specs.declared.place.FuncId.{FuncId}
use Rattle.sil_ast.specs.declared.place.PointId.{PointId}
use Rattle.sil_ast.specs.declared.place.ValueId.{ValueId}
use Rattle.sil_cfg.specs.declared.item.Item.TheVariants as item
use Rattle.sil_types_declarations.specs.TypeDefinitions.Declarations.{declarations_of}
use Rattle.sil_verifier_frames.specs.inner.Placed.FramePlaces.{HoldsPlaces, IsFree, Names, is_lent, lends}
use Rattle.sil_verifier_frames.specs.inner.Placed.PlaceStates.{BelowPlaced, TasksPlaced, as_given}
use Rattle.sil_verifier_frames.specs.inner.Placed.TrailLaws.{TrailLaws}
use Rattle.sil_verifier_frames.proofs.Placed.Entering.{IsGiven, begins_so}
use Rattle.sil_verifier_frames.proofs.Placed.Given.{ArePairsApart, any_among, pairs_given, two_apart}
use Rattle.sil_verifier_frames.proofs.Placed.HandedOver.{IsHandedOver, all_handed}
use Rattle.sil_verifier_frames.proofs.Placed.Lending.{is_alone, own_where_empty}
use Rattle.sil_verifier_frames.proofs.Placed.Lent.{Calling, all_apart, lent_at, lent_found, lent_inside, lent_within}
use Rattle.sil_verifier_frames.proofs.Placed.Reading.{IsWithin}
use Rattle.sil_verifier_frames.proofs.Placed.Staying.{below_still}

pub among_any : {A : Type 0} (test : A → Bool) (xs : List A) → list_any test xs ≡ true → (x : A) × Among x xs × (test x ≡ true)
among_any test [] e = absurd (false≢true e)
among_any test (x ∷ xs) e = ⊎_elim
    (λ (here : test x ≡ true). (x, inl refl, here))
    (λ (later : list_any test xs ≡ true). let r = among_any test xs later in (r.0, inr r.1, r.2))
    (or_cases (test x) (list_any test xs) e)

pub own_by_not : (b : Bool) → not b ≡ true → b ≡ false
own_by_not true e = absurd (false≢true e)
own_by_not false e = refl

-- a lent cell is one of a place that isn't shared
pub lent_cell : (lent : List LentPlace) (n : ℕ) → is_lent lent n ≡ true → (l : LentPlace) × Among l lent × (l.row.shared ≡ false) × (has_cell l.place n ≡ true)
lent_cell lent n e =
    let r = among_any (lends n) lent e in
    let parts = and_parts (not r.0.row.shared) (has_cell r.0.place n) r.2 in
    (r.0, r.1, own_by_not r.0.row.shared parts.0, parts.1)

pub cell_lent : (lent : List LentPlace) (l : LentPlace) → Among l lent → l.row.shared ≡ false → (n : ℕ) → has_cell l.place n ≡ true → is_lent lent n ≡ true
cell_lent lent l c own n has = any_among (lends n) lent l c (and_from (not l.row.shared) (has_cell l.place n) (ap not own) has)

-- what waits below a callee looks at its function and the places that it was given alone
pub below_same : (m : Module) (memory : Memory) (callee next : Frame) (tasks : List (Task Frame)) → next.function ≡ callee.function
    → ((body : Function) → slice_get m.functions callee.function.0 ≡ Some body → places_given body next.entries ≡ places_given body callee.entries)
    → BelowPlaced m memory callee tasks → BelowPlaced m memory next tasks
below_same m memory callee next [] same kept h = tt
below_same m memory callee next (Runs frame ∷ rest) same kept h = (
  record {
    f = h.0.f;
    is = h.0.is;
    holds = h.0.holds;
    call = h.0.call;
    stands = h.0.stands;
    calls = h.0.calls;
    lent = h.0.lent;
    body = h.0.body;
    there = ap (λ g. slice_get m.functions g.0) same ∙ h.0.there;
    given = kept h.0.body h.0.there ∙ h.0.given;
  },
  h.1,
)
below_same m memory callee next (Drops references ∷ rest) same kept h = absurd h
below_same m memory callee next (Finishes deinits o ∷ rest) same kept h = h

module _ (laws : TrailLaws) (m : Module) (number : ℕ) (f : Function) (body : IsAcceptedBody m number f) (point : PointId) (x : Inst)
    (memory : Memory) (frame : Frame) (rest : List (Task Frame)) (lent : List LentPlace) (s : Calling laws m number f body point x memory frame rest lent) where
  abbrev pub after : Memory
  after = handed_over memory lent

  abbrev pub waiting : Frame
  waiting = record frame { lent = lent }

  handed : IsHandedOver memory lent (handed_over memory lent)
  handed = all_handed memory lent (lent_inside laws m number f body point x memory frame rest lent s)

  within : (l : LentPlace) (c : Among l lent) → IsWithin m memory f frame rest (lent_at laws m number f body point x memory frame rest lent s l c).by.address
      (s.call.located (lent_at laws m number f body point x memory frame rest lent s l c).by (lent_at laws m number f body point x memory frame rest lent s l c).among).location l.place
  within = lent_within laws m number f body point x memory frame rest lent s

  own_if_empty : (l : LentPlace) → Among l lent → l.row.before ≡ content.Empty → l.row.shared ≡ false
  own_if_empty l c e =
      let by = lent_at laws m number f body point x memory frame rest lent s l c in
      own_where_empty laws m number f body frame.trail point x s.call by.by by.among l.row by.operation e

  -- what isn't lent stays
  pub unlent : (n : ℕ) → is_lent lent n ≡ false → cell_at after OnStack n ≡ cell_at memory OnStack n
  unlent n kept = handed.same n (λ l c e. not_cell l.place n (λ inside. true≢false (sym (cell_lent lent l c (own_if_empty l c e) n inside) ∙ kept)))

  pub waiting_holds : HoldsPlaces m after f waiting rest
  waiting_holds = record {
    named = λ v there.
        let y = s.holds.named v there in
        let fits = y.inside in
        let size = handed.sizes y.place.home in
        record { place = y.place; names = y.names; home = y.home; inside = omega (arith, fits, size) };
    cells = λ v there p names on is n has kept. subst (IsCell on) (sym (unlent n kept))
        (s.holds.cells v there p names on is n has (ap (λ ls. is_lent ls n) s.none_lent));
    apart = s.holds.apart;
    free = s.holds.free;
    parts = s.holds.parts;
    fields = s.holds.fields;
    handed = s.holds.handed;
    slots = s.holds.slots;
  }

  -- what is lent, and isn't shared, is free below the callee
  pub free_of : (l : LentPlace) → Among l lent → l.row.shared ≡ false → (n : ℕ) → has_cell l.place n ≡ true → IsFree m (Runs waiting ∷ rest) n
  free_of l c own n has =
      let by = lent_at laws m number f body point x memory frame rest lent s l c in
      let at = s.call.located by.by by.among in
      let w = within l c in (
        λ g is v p there names hasp. cell_lent lent l c own n has,
        s.holds.free at.location.root at.there (is_alone laws m number f body frame.trail point x s.call by.by by.among l.row by.operation own)
            w.whole w.names n (w.within n has),
      )

  -- the frames below keep what they keep
  pub rest_stays : (n : ℕ) → IsFree m rest n ⊎ (cell_at after OnStack n ≡ cell_at memory OnStack n)
  rest_stays n = by (is_lent lent n) refl
    where
      by : (b : Bool) → is_lent lent n ≡ b → IsFree m rest n ⊎ (cell_at after OnStack n ≡ cell_at memory OnStack n)
      by true e = let l = lent_cell lent n e in inl ((free_of l.0 l.1 l.2 n l.3).1)
      by false e = inr (unlent n e)

  pub more : length memory.stack ≤ length after.stack
  more = let size = handed.sizes OnStack in omega (arith, size)

  pub below_waits : BelowPlaced m memory frame rest → BelowPlaced m after waiting rest
  below_waits h = below_same m after frame waiting rest refl (λ b is. refl) (below_still m memory after more frame rest h (λ n lt. rest_stays n))

  -- ---- the callee

  module _ (callee_number : ℕ) (callee : Function) (accepted : IsAcceptedBody m callee_number callee) (g : FuncId) (there : slice_get m.functions g.0 ≡ Some callee)
      (entries : List Entry) (given : places_given callee entries ≡ map as_given lent)
      (named : (v : ValueId) (row : AddressRow) (trivial : Bool) → source_at (sources_of (declarations_of m) callee) v ≡ source.Argument row trivial → (p : Place) × Names entries v p)
      (others : (v : ValueId) → has (item_defined callee item.Entry) v.0 ≡ false → entry_at entries v ≡ Gone) where
    one_given : (l : LentPlace) → Among l (places_given callee entries) → (k : LentPlace) × Among k lent × (l ≡ as_given k)
    one_given l c = map_among as_given l lent (subst (Among l) given c)

    given_cells : (k : LentPlace) → Among k lent → (n : ℕ) → has_cell k.place n ≡ true → IsCell (is_full k.row.before) (cell_at after OnStack n)
    given_cells k c n has = at k.row.before refl
      where
        at : (b : Content) → k.row.before ≡ b → IsCell (is_full b) (cell_at after OnStack n)
        at content.Empty e = handed.empty k c e n has
        at content.Full e =
            let found = lent_found laws m number f body point x memory frame rest lent s k c in
            let w = within k c in
            subst (IsCell true) (sym (handed.same n (λ j cj ej. two_apart lent (all_apart laws m number f body point x memory frame rest lent s) k j c cj
            (λ same. not_both (sym e ∙ ap (λ l. l.row.before) same ∙ ej))
            (and_right k.row.shared j.row.shared (own_if_empty j cj ej)) n has)))
            (subst (λ h. IsCell true (cell_at memory h n)) w.home (subst (λ b. IsCell b (cell_at memory k.place.home n)) (found.2 e) (found.1 n has)))
          where
            not_both : content.Full ≡ content.Empty → ⊥
            not_both e = cc

    is_given : IsGiven laws m callee_number callee accepted after entries (Runs waiting ∷ rest)
    is_given = record {
      named = named;
      others = others;
      pairs = subst ArePairsApart (sym given) (pairs_given lent (all_apart laws m number f body point x memory frame rest lent s));
      each = λ l c.
          let k = one_given l c in
          let w = within k.0 k.1 in
          let fits = w.inside in
          let size = handed.sizes k.0.place.home in (
            ap (λ z. z.place.home) k.2 ∙ w.home,
            subst (λ z. IsInside after z.place) (sym k.2) (omega (arith, fits, size)),
            ap (λ z. z.place.is_part) k.2,
          );
      cells = λ l c n has.
          let k = one_given l c in
          subst (λ z. IsCell (is_full z.row.before) (cell_at after OnStack n)) (sym k.2) (given_cells k.0 k.1 n (sym (ap (λ z. has_cell z.place n) k.2) ∙ has));
      free = λ l c own n has.
          let k = one_given l c in
          free_of k.0 k.1 (sym (ap (λ z. z.row.shared) k.2) ∙ own) n (sym (ap (λ z. has_cell z.place n) k.2) ∙ has);
    }

    -- the callee goes on over the frame that waits
    pub calls_placed : slice_get m.functions frame.function.0 ≡ Some f → inst_at f (stands_at f frame.trail) ≡ Some x → effect_of x.op ≡ CallsFunction → BelowPlaced m memory frame rest
        → TasksPlaced m after (Runs (new_frame g entries) ∷ Runs waiting ∷ rest)
    calls_placed is stands calls below = (
      record {
        f = callee;
        is = there;
        holds = begins_so laws m callee_number callee accepted after g entries (Runs waiting ∷ rest) is_given;
        none_lent = refl;
      },
      (
        record {
          f = f;
          is = is;
          holds = waiting_holds;
          call = x;
          stands = stands;
          calls = calls;
          lent = s.by;
          body = callee;
          there = there;
          given = given;
        },
        below_waits below,
      ),
    )
