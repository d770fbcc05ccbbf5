-- What a frame holds when a slot is allocated, and when one is deallocated.
use Rattle.std.proofs.Common.{◌≡◌, ◌≤◌, ◌+◌, ◌++◌, ◌⊎◌, inl, inr, ◌==◌, ◌&&◌, ℕ, List, [], length, Bool, true, false, Some, refl, sym, ap, ◌∙◌, subst, arith, eq-eqb, eqb-true}
use Rattle.std.proofs.lemmas.Bool.{and_right, true≢false}
use Rattle.std.proofs.lemmas.Option.{same_Some}
use Rattle.holder_model_laws.specs.memory_rules_accesses.Sources.{source_at, sources_of}
use Rattle.holder_model_laws.specs.memory_rules_accesses.declared.source.Source.TheVariants as source
use Rattle.sil_verifier_trails.specs.AcceptedPlaces.inner.Stacks.{slots_on}
use Rattle.argument_conventions.specs.declared.row.AddressRow.{AddressRow}
use Rattle.holder_model_laws.specs.holder_model.Frames.{Frame, entry_at}
use Rattle.holder_model_laws.specs.holder_model.States.{Task}
use Rattle.holder_model_laws.specs.HolderLaws.inner.Cells.Cells.{ChangesAt, IsCell, cell_at, has_cell}
use Rattle.holder_model_laws.proofs.HolderLaws.Cells.PlaceCells.{cell_within, not_cell, offset_of}
use Rattle.holder_model_laws.proofs.HolderLaws.Cells.Writes.{slots_new}
use Rattle.holder_model_values.specs.RunValues.Cells.{Empty, cell_count}
use Rattle.holder_model_values.specs.RunValues.Memory.{Memory}
use Rattle.holder_model_values.specs.RunValues.Places.{OnStack, Place, empty_slot}
use Rattle.holder_model_values.specs.RunValues.Shapes.{Shape}
use Rattle.sil_ast.specs.declared.function.Function.{Function}
use Rattle.sil_ast.specs.declared.module.Module.{Module}
use Rattle.sil_ast.specs.declared.place.ValueId.{ValueId}
use Rattle.sil_types_declarations.specs.TypeDefinitions.Declarations.{declarations_of}
use Rattle.sil_verifier_frames.specs.inner.Placed.FramePlaces.{AreSlotsOf, HoldsPlaces, IsFree, IsNamed, Names, is_lent}
use Rattle.sil_verifier_frames.specs.inner.Placed.PartsNamed.{ArePartsNamed}
use Rattle.sil_verifier_frames.specs.inner.Placed.Roots.{IsThere, argument, is_full_on, is_shared}
use Rattle.sil_verifier_frames.proofs.Placed.GoingOn.{AreCellsBehind, KeepsRoots}
use Rattle.sil_verifier_frames.proofs.Placed.Naming.{inside_stack, named_cell, names_kept, names_once, names_still, stack_inside}

abbrev pub with_slot : Memory → Shape → Memory
with_slot memory s = record memory { stack = memory.stack ++ empty_slot s }

abbrev pub slot_of : Memory → Shape → Place
slot_of memory s = record { home = OnStack; first = length memory.stack; shape = s; is_part = false }

module _ (m : Module) (f : Function) (frame next : Frame) (rest : List (Task Frame)) (memory : Memory) (s : Shape) where
  -- behind the item there is one root more: the new slot, which names the new cells and is empty
  pub record Opens (root : ValueId) : Type 0 where
    pub trivial : Bool
    pub source : source_at (sources_of (declarations_of m) f) root ≡ source.Slot trivial
    pub names : Names next.entries root (slot_of memory s)
    pub empty : is_full_on (declarations_of m) f root next.trail ≡ Some false
    pub roots : (v : ValueId) → IsThere (declarations_of m) f next.trail v → (v.0 == root.0) ≡ false → IsThere (declarations_of m) f frame.trail v
    pub entries : (v : ValueId) → IsThere (declarations_of m) f next.trail v → (v.0 == root.0) ≡ false → entry_at next.entries v ≡ entry_at frame.entries v
    pub stay : (v : ValueId) → IsThere (declarations_of m) f next.trail v → (v.0 == root.0) ≡ false
        → is_full_on (declarations_of m) f v next.trail ≡ is_full_on (declarations_of m) f v frame.trail
    pub parts : ArePartsNamed (sources_of (declarations_of m) f) f next.trail next.entries
    pub slots : AreSlotsOf next.entries (slots_on (declarations_of m) f next.trail) next.slots

  same_root : (v root : ValueId) → (v.0 == root.0) ≡ true → v ≡ root
  same_root v root e = ap (λ (k : ℕ). record { 0 = k }) (eqb-true v.0 root.0 e)

  -- each root is the new one, or was there
  by_root : {A : Type 0} (v root : ValueId) → (v ≡ root → A) → ((v.0 == root.0) ≡ false → A) → A
  by_root {A} v root new old = at (v.0 == root.0) refl
    where
      at : (b : Bool) → (v.0 == root.0) ≡ b → A
      at true e = new (same_root v root e)
      at false e = old e

  pub opens : HoldsPlaces m memory f frame rest → frame.lent ≡ [] → ((n : ℕ) → length memory.stack ≤ n → IsFree m rest n) → (root : ValueId) → Opens root
      → HoldsPlaces m (with_slot memory s) f next rest
  opens h none free root x = record {
    named = λ v there. by_root v root
        (λ e. subst (IsNamed m (with_slot memory s) next.entries) (sym e)
        (record { place = slot_of memory s; names = x.names; home = refl; inside = omega (arith, long) }))
        (λ other.
        let was = h.named v (x.roots v there other) in
        let all = inside_stack memory was.place was.home was.inside in
        record {
          place = was.place;
          names = names_still frame.entries next.entries v (x.entries v there other) was.place was.names;
          home = was.home;
          inside = stack_inside (with_slot memory s) was.place was.home (omega (arith, all, long));
        });
    cells = λ v there p names on is n has unlent. by_root v root
        (λ e.
        let here : p ≡ slot_of memory s = is_new v e p names in
        let off : on ≡ false = same_Some on false (sym is ∙ ap (λ w. is_full_on (declarations_of m) f w next.trail) e ∙ x.empty) in
        subst (λ b. IsCell b (cell_at (with_slot memory s) OnStack n)) (sym off) (new_cell n (subst (λ q. has_cell q n ≡ true) here has)))
        (λ other.
        let was = h.named v (x.roots v there other) in
        let old = names_kept frame.entries next.entries v (x.entries v there other) p names in
        subst (IsCell on) (sym ((slots_new memory s).0 n (named_cell m memory frame.entries v was p old n has)))
        (h.cells v (x.roots v there other) p old on (sym (x.stay v there other) ∙ is) n has (ap (λ ls. is_lent ls n) none)));
    apart = λ v w a b other shared p q one two n has. by_root v root
        (λ e. by_root w root
        (λ g. absurd (true≢false (sym (same_is v w (e ∙ sym g)) ∙ other)))
        (λ old.
        let was = h.named w (x.roots w b old) in
        let late = past n (subst (λ r. has_cell r n ≡ true) (is_new v e p one) has) in
        not_cell q n (λ inside.
        let early = named_cell m memory frame.entries w was q (names_kept frame.entries next.entries w (x.entries w b old) q two) n inside in
        omega (arith, early, late))))
        (λ old. by_root w root
        (λ g.
        let was = h.named v (x.roots v a old) in
        let early = named_cell m memory frame.entries v was p (names_kept frame.entries next.entries v (x.entries v a old) p one) n has in
        not_cell q n (λ inside.
        let late = past n (subst (λ r. has_cell r n ≡ true) (is_new w g q two) inside) in
        omega (arith, early, late)))
        (λ young. h.apart v w (x.roots v a old) (x.roots w b young) other shared p q
        (names_kept frame.entries next.entries v (x.entries v a old) p one) (names_kept frame.entries next.entries w (x.entries w b young) q two) n has));
    free = λ v a shared p names n has. by_root v root
        (λ e. free n (past n (subst (λ r. has_cell r n ≡ true) (is_new v e p names) has)))
        (λ old. h.free v (x.roots v a old) shared p (names_kept frame.entries next.entries v (x.entries v a old) p names) n has);
    parts = x.parts.parts;
    fields = x.parts.fields;
    handed = λ v row trivial is p names. by_root v root
        (λ e. absurd (not_slot row trivial (sym (ap (λ w. source_at (sources_of (declarations_of m) f) w) e ∙ x.source) ∙ is)))
        (λ old. h.handed v row trivial is p (names_kept frame.entries next.entries v (x.entries v (argument row trivial is) old) p names));
    slots = x.slots;
  }
    where
      long : length (memory.stack ++ empty_slot s) ≡ length memory.stack + cell_count s
      long = (slots_new memory s).2

      is_new : (v : ValueId) → v ≡ root → (p : Place) → Names next.entries v p → p ≡ slot_of memory s
      is_new v e p names = names_once next.entries root p (slot_of memory s) (subst (λ w. Names next.entries w p) e names) x.names

      past : (n : ℕ) → has_cell (slot_of memory s) n ≡ true → length memory.stack ≤ n
      past n has = (cell_within (slot_of memory s) n has).0

      new_cell : (n : ℕ) → has_cell (slot_of memory s) n ≡ true → cell_at (with_slot memory s) OnStack n ≡ Some Empty
      new_cell n has =
          let at = offset_of (slot_of memory s) n has in
          ap (λ k. cell_at (with_slot memory s) OnStack k) (sym at.is) ∙ (slots_new memory s).1 at.offset at.within

      same_is : (v w : ValueId) → v ≡ w → (v.0 == w.0) ≡ true
      same_is v w e = eq-eqb v.0 w.0 (ap (λ u. u.0) e)

      not_slot : (row : AddressRow) (trivial : Bool) → source.Slot x.trivial ≡ source.Argument row trivial → ⊥
      not_slot row trivial e = cc

module _ (m : Module) (f : Function) (frame next : Frame) (rest : List (Task Frame)) (before after : Memory) where
  -- a root's place is gone behind the item, and the root isn't there any more. All others are as full as they were
  pub record Closes (root : ValueId) (p : Place) : Type 0 where
    pub there : IsThere (declarations_of m) f frame.trail root
    pub alone : is_shared (declarations_of m) f root ≡ false
    pub names : Names frame.entries root p
    pub changes : ChangesAt p before after
    pub gone : (v : ValueId) → IsThere (declarations_of m) f next.trail v → (v.0 == root.0) ≡ false
    pub stay : (v : ValueId) → IsThere (declarations_of m) f next.trail v
        → is_full_on (declarations_of m) f v next.trail ≡ is_full_on (declarations_of m) f v frame.trail

  pub closed_cells : HoldsPlaces m before f frame rest → frame.lent ≡ [] → KeepsRoots m f frame next rest before after → (root : ValueId) (p : Place) → Closes root p
      → AreCellsBehind m f frame next rest before after
  closed_cells h none keeps root p x v there q names on is n has unlent =
      let old = names_kept frame.entries next.entries v (keeps.entries v there) q names in
      let clear : is_shared (declarations_of m) f v && is_shared (declarations_of m) f root ≡ false = and_right (is_shared (declarations_of m) f v) _ x.alone in
      let apart = h.apart v root (keeps.roots v there) x.there (x.gone v there) clear q p old x.names n has in
      subst (IsCell on) (sym (x.changes.others OnStack n (λ e. apart)))
      (h.cells v (keeps.roots v there) q old on (sym (x.stay v there) ∙ is) n has (ap (λ ls. is_lent ls n) none))

  pub closes_below : HoldsPlaces m before f frame rest → (root : ValueId) (p : Place) → Closes root p
      → (n : ℕ) → IsFree m rest n ⊎ (cell_at after OnStack n ≡ cell_at before OnStack n)
  closes_below h root p x n = at (has_cell p n) refl
    where
      at : (b : Bool) → has_cell p n ≡ b → IsFree m rest n ⊎ (cell_at after OnStack n ≡ cell_at before OnStack n)
      at true inside = inl (h.free root x.there x.alone p x.names n inside)
      at false out = inr (x.changes.others OnStack n (λ e. out))
