-- What a frame holds behind an item: its roots and their entries stay, and what is done at one place is done there alone.
use Rattle.std.proofs.Common.{◌≡◌, ◌≤◌, ◌⊎◌, ⊎_elim, inl, inr, ◌==◌, ◌&&◌, ℕ, List, [], length, Bool, true, false, Some, refl, sym, ap, ◌∙◌, subst, arith, eqb-true}
use Rattle.std.proofs.lemmas.Bool.{and_right, true≢false}
use Rattle.std.proofs.lemmas.Option.{same_Some}
use Rattle.holder_model_laws.specs.memory_rules_accesses.Sources.{sources_of}
use Rattle.sil_verifier_trails.specs.AcceptedPlaces.inner.Stacks.{slots_on}
use Rattle.holder_model_laws.specs.holder_model.Frames.{Frame, entry_at}
use Rattle.holder_model_laws.specs.holder_model.States.{Task}
use Rattle.holder_model_laws.specs.HolderLaws.inner.Cells.Cells.{ChangesAt, IsCell, IsPlace, cell_at, has_cell}
use Rattle.holder_model_values.specs.RunValues.Memory.{Memory}
use Rattle.holder_model_values.specs.RunValues.Places.{OnStack, Place}
use Rattle.sil_ast.specs.declared.function.Function.{Function}
use Rattle.sil_ast.specs.declared.module.Module.{Module}
use Rattle.sil_ast.specs.declared.place.ValueId.{ValueId}
use Rattle.sil_types_declarations.specs.TypeDefinitions.Declarations.{declarations_of}
use Rattle.sil_verifier_frames.specs.inner.Placed.FramePlaces.{AreSlotsOf, HoldsPlaces, IsFree, Names, is_lent}
use Rattle.sil_verifier_frames.specs.inner.Placed.PartsNamed.{ArePartsNamed}
use Rattle.sil_verifier_frames.specs.inner.Placed.Roots.{IsThere, argument, is_full_on, is_shared}
use Rattle.holder_model_laws.proofs.HolderLaws.Cells.PlaceCells.{not_cell}
use Rattle.sil_verifier_frames.proofs.Placed.Naming.{inside_stack, names_kept, names_once, names_still, stack_inside}

module _ (m : Module) (f : Function) (frame next : Frame) (rest : List (Task Frame)) (before after : Memory) where
  -- the roots that are there behind the item were there before, and their entries stay. So do those of parts, or they are named anew
  pub record KeepsRoots : Type 0 where
    pub roots : (v : ValueId) → IsThere (declarations_of m) f next.trail v → IsThere (declarations_of m) f frame.trail v
    pub entries : (v : ValueId) → IsThere (declarations_of m) f next.trail v → entry_at next.entries v ≡ entry_at frame.entries v
    pub parts : ArePartsNamed (sources_of (declarations_of m) f) f next.trail next.entries
    pub slots : AreSlotsOf next.entries (slots_on (declarations_of m) f next.trail) next.slots

  -- behind the item each cell of a root that is there is as the trail says
  abbrev pub AreCellsBehind : Type 0
  AreCellsBehind = (v : ValueId) → IsThere (declarations_of m) f next.trail v → (p : Place) → Names next.entries v p
      → (on : Bool) → is_full_on (declarations_of m) f v next.trail ≡ Some on
      → (n : ℕ) → has_cell p n ≡ true → is_lent next.lent n ≡ false → IsCell on (cell_at after OnStack n)

  pub goes_on : HoldsPlaces m before f frame rest → length before.stack ≤ length after.stack → KeepsRoots → AreCellsBehind → HoldsPlaces m after f next rest
  goes_on h more keeps cells = record {
    named = λ v there.
        let old = keeps.roots v there in
        let x = h.named v old in
        let all = inside_stack before x.place x.home x.inside in
        record {
          place = x.place;
          names = names_still frame.entries next.entries v (keeps.entries v there) x.place x.names;
          home = x.home;
          inside = stack_inside after x.place x.home (omega (arith, all, more));
        };
    cells = cells;
    apart = λ v w a b other shared p q one two. h.apart v w (keeps.roots v a) (keeps.roots w b) other shared p q
        (names_kept frame.entries next.entries v (keeps.entries v a) p one) (names_kept frame.entries next.entries w (keeps.entries w b) q two);
    free = λ v a shared p names. h.free v (keeps.roots v a) shared p (names_kept frame.entries next.entries v (keeps.entries v a) p names);
    parts = keeps.parts.parts;
    fields = keeps.parts.fields;
    handed = λ v row trivial is p names. h.handed v row trivial is p
        (names_kept frame.entries next.entries v (keeps.entries v (argument row trivial is)) p names);
    slots = keeps.slots;
  }

  -- the roots but for this one are as full as they were
  abbrev pub OthersStay : ValueId → Type 0
  OthersStay root = (v : ValueId) → IsThere (declarations_of m) f next.trail v → (v.0 == root.0) ≡ false
      → is_full_on (declarations_of m) f v next.trail ≡ is_full_on (declarations_of m) f v frame.trail

  -- nothing is done to what roots hold
  pub stays_quiet : HoldsPlaces m before f frame rest → frame.lent ≡ [] → KeepsRoots → ((n : ℕ) → cell_at after OnStack n ≡ cell_at before OnStack n)
      → ((v : ValueId) → IsThere (declarations_of m) f next.trail v → is_full_on (declarations_of m) f v next.trail ≡ is_full_on (declarations_of m) f v frame.trail)
      → AreCellsBehind
  stays_quiet h none keeps same stay v there p names on is n has unlent =
      subst (IsCell on) (sym (same n)) (h.cells v (keeps.roots v there) p (names_kept frame.entries next.entries v (keeps.entries v there) p names) on
      (sym (stay v there) ∙ is) n has (ap (λ ls. is_lent ls n) none))

  -- something is done at a place within that of a root which isn't shared: it is full or empty behind. Where it isn't the whole, the root is as it was
  pub record IsDoneAt (root : ValueId) (p : Place) (on : Bool) : Type 0 where
    pub there : IsThere (declarations_of m) f next.trail root
    pub alone : is_shared (declarations_of m) f root ≡ false
    pub whole : Place
    pub names : Names frame.entries root whole
    pub home : p.home ≡ OnStack
    pub within : (n : ℕ) → has_cell p n ≡ true → has_cell whole n ≡ true
    pub changes : ChangesAt p before after
    pub behind : IsPlace on after p
    pub left : is_full_on (declarations_of m) f root next.trail ≡ Some on
    pub how : (p ≡ whole) ⊎ (is_full_on (declarations_of m) f root frame.trail ≡ Some on)

  other_cell : (root : ValueId) (p : Place) (on : Bool) → IsDoneAt root p on → (n : ℕ) → has_cell p n ≡ false → cell_at after OnStack n ≡ cell_at before OnStack n
  other_cell root p on x n out = x.changes.others OnStack n (λ e. out)

  pub cells_behind : HoldsPlaces m before f frame rest → frame.lent ≡ [] → KeepsRoots → (root : ValueId) (p : Place) (on : Bool) → IsDoneAt root p on → OthersStay root
      → AreCellsBehind
  cells_behind h none keeps root p on x others v there q names on' is n has unlent = by (v.0 == root.0) refl
    where
      old : Names frame.entries v q
      old = names_kept frame.entries next.entries v (keeps.entries v there) q names

      before_so : (b : Bool) → is_full_on (declarations_of m) f v frame.trail ≡ Some b → IsCell b (cell_at before OnStack n)
      before_so b was = h.cells v (keeps.roots v there) q old b was n has (ap (λ ls. is_lent ls n) none)

      -- the root itself
      own : v ≡ root → IsCell on' (cell_at after OnStack n)
      own e = at (has_cell p n) refl
        where
          same : on ≡ on'
          same = same_Some on on' (sym x.left ∙ ap (λ w. is_full_on (declarations_of m) f w next.trail) (sym e) ∙ is)

          at : (b : Bool) → has_cell p n ≡ b → IsCell on' (cell_at after OnStack n)
          at true inside = subst (λ b. IsCell b (cell_at after OnStack n)) same (subst (λ g. IsCell on (cell_at after g n)) x.home (x.behind n inside))
          at false out = ⊎_elim
              (λ (all : p ≡ x.whole).
              let is_whole : q ≡ x.whole = names_once frame.entries root q x.whole (subst (λ w. Names frame.entries w q) e old) x.names in
              absurd (true≢false (sym (subst (λ r. has_cell r n ≡ true) (is_whole ∙ sym all) has) ∙ out)))
              (λ (was : is_full_on (declarations_of m) f root frame.trail ≡ Some on).
              subst (IsCell on') (sym (other_cell root p on x n out))
              (before_so on' (ap (λ w. is_full_on (declarations_of m) f w frame.trail) e ∙ was ∙ ap Some same)))
              x.how

      by : (b : Bool) → (v.0 == root.0) ≡ b → IsCell on' (cell_at after OnStack n)
      by true e = own (ap (λ (k : ℕ). record { 0 = k }) (eqb-true v.0 root.0 e))
      by false e =
          let clear : is_shared (declarations_of m) f v && is_shared (declarations_of m) f root ≡ false = and_right (is_shared (declarations_of m) f v) _ x.alone in
          let apart = h.apart v root (keeps.roots v there) (keeps.roots root x.there) e clear q x.whole old x.names in
          let out : has_cell p n ≡ false = not_cell p n (λ inside. true≢false (sym (x.within n inside) ∙ apart n has)) in
          subst (IsCell on') (sym (other_cell root p on x n out)) (before_so on' (sym (others v there e) ∙ is))

  -- and the frames below keep what they keep
  pub stays_below : HoldsPlaces m before f frame rest → KeepsRoots → (root : ValueId) (p : Place) (on : Bool) → IsDoneAt root p on
      → (n : ℕ) → IsFree m rest n ⊎ (cell_at after OnStack n ≡ cell_at before OnStack n)
  stays_below h keeps root p on x n = at (has_cell p n) refl
    where
      at : (b : Bool) → has_cell p n ≡ b → IsFree m rest n ⊎ (cell_at after OnStack n ≡ cell_at before OnStack n)
      at true inside = inl (h.free root (keeps.roots root x.there) x.alone x.whole x.names n (x.within n inside))
      at false out = inr (other_cell root p on x n out)
