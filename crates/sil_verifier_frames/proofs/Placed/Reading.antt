-- What an operand's place is: that of the root of its location, or a part of it. So it is as full as the root is.
use Rattle.std.proofs.Common.{◌≡◌, ◌≤◌, ◌++◌, ◌⊎◌, inl, inr, ℕ, zero, suc, List, [], ◌∷◌, length, Bool, true, false, Option, Some, None, refl, sym, ap, ◌∙◌, subst, arith}
use Rattle.std.specs.Prelude.{option_map}
use Rattle.std.proofs.lemmas.Bool.{true≢false}
use Rattle.std.proofs.lemmas.Option.{none-some, same_Some}
use Rattle.sil_verifier_trails.specs.AcceptedTrails.inner.Bases.{IsAsMade}
use Rattle.holder_model_laws.specs.holder_model.Frames.{Frame}
use Rattle.holder_model_laws.specs.holder_model.States.{Task}
use Rattle.holder_model_laws.specs.memory_rules_accesses.Locations.{extended, locate, located_by, location_of, whole}
use Rattle.holder_model_laws.specs.memory_rules_accesses.Rows.{has_steps, is_part}
use Rattle.holder_model_laws.specs.memory_rules_accesses.Sources.{source_at, sources_of}
use Rattle.holder_model_laws.specs.memory_rules_accesses.declared.location.Location.{Location}
use Rattle.holder_model_laws.specs.memory_rules_accesses.declared.source.Source.{Source}
use Rattle.holder_model_laws.specs.memory_rules_accesses.declared.source.Source.TheVariants as source
use Rattle.holder_model_laws.specs.HolderLaws.inner.Cells.Cells.{IsCell, IsInside, IsPlace, behind, cell_at, has_cell}
use Rattle.holder_model_laws.proofs.HolderLaws.Cells.PlaceCells.{cell_from, cell_within}
use Rattle.holder_model_values.specs.RunValues.Memory.{Memory}
use Rattle.holder_model_values.specs.RunValues.Places.{OnStack, Place}
use Rattle.sil_ast.specs.declared.function.Function.{Function}
use Rattle.sil_ast.specs.declared.module.Module.{Module}
use Rattle.sil_ast.specs.declared.place.ValueId.{ValueId}
use Rattle.sil_types_declarations.specs.TypeDefinitions.Declarations.{declarations_of}
use Rattle.holder_model_values.proofs.ValueParts.Paths.{part_cells_fit}
use Rattle.sil_verifier_frames.specs.inner.Placed.FramePlaces.{HoldsPlaces, IsPartAt, Names, is_lent}
use Rattle.sil_verifier_frames.specs.inner.Placed.Roots.{IsThere, is_full_on}
use Rattle.sil_verifier_frames.proofs.Placed.Naming.{inside_stack, names_once, stack_inside}

-- ---- locations

-- a path that goes on is a part
goes_on : (path : List ℕ) (k : ℕ) → has_steps (path ++ k ∷ []) ≡ true
goes_on [] k = refl
goes_on (j ∷ path) k = refl

member_is_part : (o : Option Location) (k : ℕ) (l : Location) → option_map (extended k) o ≡ Some l → is_part l ≡ true
member_is_part None k l e = absurd (none-some l e)
member_is_part (Some x) k l e = ap is_part (sym (same_Some (extended k x) l e)) ∙ goes_on x.path k

located_whole : (others : ValueId → Option Location) (v : ValueId) (s : Source) (l : Location) → located_by others v s ≡ Some l → is_part l ≡ false → l ≡ whole v
located_whole others v (source.Slot trivial) l e not_so = sym (same_Some (whole v) l e)
located_whole others v (source.Argument row trivial) l e not_so = sym (same_Some (whole v) l e)
located_whole others v (source.Object fields) l e not_so = absurd (none-some l e)
located_whole others v (source.Borrow of) l e not_so = absurd (none-some l e)
located_whole others v (source.Upcast of) l e not_so = absurd (none-some l e)
located_whole others v (source.Loan of) l e not_so = absurd (none-some l e)
located_whole others v (source.Field of k trivial) l e not_so = sym (same_Some (whole v) l e)
located_whole others v (source.Part of k) l e not_so = absurd (true≢false (sym (member_is_part (others of) k l e) ∙ not_so))
located_whole others v source.Other l e not_so = absurd (none-some l e)

-- an address whose location isn't a part is the root itself
locate_whole : (sources : List Source) (n : ℕ) (v : ValueId) (l : Location) → locate sources n v ≡ Some l → is_part l ≡ false → l ≡ whole v
locate_whole sources zero v l e not_so = absurd (none-some l e)
locate_whole sources (suc n) v l e not_so = located_whole (locate sources n) v (source_at sources v) l e not_so

pub root_itself : (sources : List Source) (v : ValueId) (l : Location) → location_of sources v ≡ Some l → is_part l ≡ false → l.root ≡ v
root_itself sources v l e not_so = ap (λ x. x.root) (locate_whole sources (length sources) v l e not_so)

-- ---- cells of a part

pub part_cells : (whole p : Place) (path : List ℕ) → IsPartAt whole path p → (n : ℕ) → has_cell p n ≡ true → has_cell whole n ≡ true
part_cells whole p path x n has =
    let fits = part_cells_fit x.shape in
    let at = cell_within p n has in
    let from = at.0 in
    let below = at.1 in
    let first = x.first in
    cell_from whole n (omega (arith, from, first)) (omega (arith, below, first, fits))

pub part_end : (whole p : Place) (path : List ℕ) → IsPartAt whole path p → behind p ≤ behind whole
part_end whole p path x = let fits = part_cells_fit x.shape in let first = x.first in omega (arith, first, fits)

-- ---- an operand's place

module _ (m : Module) (memory : Memory) (f : Function) (frame : Frame) (rest : List (Task Frame)) where
  -- the operand's place is within its root's, which is there: it is the whole of it, or a part
  pub record IsWithin (v : ValueId) (l : Location) (p : Place) : Type 0 where
    pub there : IsThere (declarations_of m) f frame.trail l.root
    pub whole : Place
    pub names : Names frame.entries l.root whole
    pub home : p.home ≡ OnStack
    pub inside : IsInside memory p
    pub within : (n : ℕ) → has_cell p n ≡ true → has_cell whole n ≡ true
    pub how : ((is_part l ≡ false) × (p ≡ whole)) ⊎ ((is_part l ≡ true) × (p.is_part ≡ true))

  pub operand_within : HoldsPlaces m memory f frame rest → (v : ValueId) (l : Location) → location_of (sources_of (declarations_of m) f) v ≡ Some l
      → IsThere (declarations_of m) f frame.trail l.root → IsAsMade f frame.trail l.root v → (p : Place) → Names frame.entries v p → IsWithin v l p
  operand_within h v l is there made p names = at (is_part l) refl
    where
      root : Place
      root = (h.named l.root there).place

      at : (b : Bool) → is_part l ≡ b → IsWithin v l p
      at false e =
          let own : l.root ≡ v = root_itself (sources_of (declarations_of m) f) v l is e in
          let same : p ≡ root = names_once frame.entries v p root names (subst (λ w. Names frame.entries w root) own (h.named l.root there).names) in
          record {
            there = there;
            whole = root;
            names = (h.named l.root there).names;
            home = ap (λ q. q.home) same ∙ (h.named l.root there).home;
            inside = subst (IsInside memory) (sym same) (h.named l.root there).inside;
            within = λ n has. subst (λ q. has_cell q n ≡ true) same has;
            how = inl (e, same);
          }
      at true e =
          let part = h.parts v l is e made root p (h.named l.root there).names names in
          let home = part.home ∙ (h.named l.root there).home in
          let all = inside_stack memory root (h.named l.root there).home (h.named l.root there).inside in
          let end = part_end root p l.path part in
          record {
            there = there;
            whole = root;
            names = (h.named l.root there).names;
            home = home;
            inside = stack_inside memory p home (omega (arith, all, end));
            within = part_cells root p l.path part;
            how = inr (e, part.part);
          }

  -- so it is as full as the root is
  pub as_the_root : HoldsPlaces m memory f frame rest → frame.lent ≡ [] → (v : ValueId) (l : Location) (p : Place) → IsWithin v l p
      → (on : Bool) → is_full_on (declarations_of m) f l.root frame.trail ≡ Some on → IsPlace on memory p
  as_the_root h none v l p x on is n has = subst (λ g. IsCell on (cell_at memory g n)) (sym x.home)
      (h.cells l.root x.there x.whole x.names on is n (x.within n has) (ap (λ ls. is_lent ls n) none))
