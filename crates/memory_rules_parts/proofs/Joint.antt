-- The table of several parts, by facts that are the same, and by an item's own entries and the shared ones of a `return`.
use Rattle.std.proofs.Common.{◌≡◌, ℕ, ◌+◌, ◌<◌, List, [], ◌∷◌, ◌++◌, length, map, refl, sym, ap, ap₂, ◌∙◌, Bool, Option, append-nil, append_assoc, arith, get_or, take, Some, None}
use Rattle.std.proofs.lemmas.List.{length-map, length-take-le, map-append, take_more}
use Rattle.std.proofs.lemmas.List.FromFn.{fill_by_all}
use Rattle.std.proofs.lemmas.Option.{slice_get-map, unwrap_or-slice_get}
use Rattle.std.specs.Prelude.{not, ◌&&◌, ◌||◌, option_and_then, option_map, slice_get, unwrap_or}
use Rattle.std.specs.List.{flat_map, range_with_len}
use Rattle.sil_ast.specs.declared.function.Function.{Function}
use Rattle.sil_ast.specs.declared.place.ValueId.{ValueId}
use Rattle.sil_cfg.specs.Layout.{Layout, item_at}
use Rattle.sil_cfg.specs.declared.item.Item.{Item}
use Rattle.ownership_kinds_chains.specs.OwnershipChains.Facts.{known_or, value_of}
use Rattle.ownership_kinds_chains.specs.declared.ownership_chains.facts.Facts.{Facts}
use Rattle.ownership_kinds_chains.proofs.OwnershipMarks.MarkTables.{flat_map_same}
use Rattle.ownership_kinds_chains.specs.OwnershipMarks.Known.{AreKindsBy, Known, facts_of, marks_at}
use Rattle.reach_engine_marks.specs.PathChecks.inner.Shared.{entries_with, entry_if, shared_from, shared_if}
use Rattle.reach_engine_marks.specs.declared.path_checks.entry.Entry.{Entry}
use Rattle.number_tables.specs.PathLists.inner.Lists.{list_at}
use Rattle.reach_engine_marks.specs.PathPatterns.inner.Reads.{AgreesWith}
use Rattle.reach_engine_marks.specs.PathPatterns.Marks.{needs_off}
use Rattle.sil_rules.specs.declared.rule.Rule.TheVariants as rule
use Rattle.reach_engine_marks.specs.declared.path_patterns.mark.Mark.{Mark}
use Rattle.memory_rules_accesses.specs.Accesses.{accesses_of, accesses_with}
use Rattle.memory_rules_accesses.specs.Sources.{source_at}
use Rattle.memory_rules_accesses.specs.declared.access.Access.{Access}
use Rattle.memory_rules_accesses.specs.declared.access.Access.TheVariants.{Ends, Begins, Allocates, Deallocates, Given, Does, Mentions}
use Rattle.memory_rules_accesses.specs.declared.source.Source.{Source}
use Rattle.memory_rules_parts.specs.inner.Batches.{AreReturns, batch_table, joint, return_mark}
use Rattle.memory_rules_parts.specs.Building.{builds, building_mark, goes_by_borrow, takes_borrow, takes_object}
use Rattle.memory_rules_parts.specs.Parts.{at_return, means, parts_at, parts_by, parts_of}
use Rattle.memory_rules_parts.specs.Switches.{is_same, when}
use Rattle.memory_rules_parts.specs.declared.part.Part.{Part}
use Rattle.memory_rules_parts.specs.declared.part.Part.TheVariants.{Contents, Allocation, Lent, Building, InScope, InSlot}

map_same : {X A : Type 0} (p q : X → A) → ((x : X) → p x ≡ q x) → (xs : List X) → map p xs ≡ map q xs
map_same p q same [] = refl
map_same p q same (x ∷ xs) = ap₂ (λ u v. u ∷ v) (same x) (map_same p q same xs)

module _ (sources : List Source) (facts other : ValueId → Facts) (same : (v : ValueId) → facts v ≡ other v) where
  building_same : (object : ValueId) (field : ℕ) (a : Access) → building_mark sources facts object field a ≡ building_mark sources other object field a
  building_same object field (Ends v) = refl
  building_same object field (Begins v) = refl
  building_same object field (Allocates v) = refl
  building_same object field (Deallocates v) = refl
  building_same object field (Given v content) = refl
  building_same object field (Does x) = refl
  building_same object field (Mentions v w) =
      ap (λ f. when ((is_same v object && not (takes_object w)) || (goes_by_borrow sources f object && not (builds sources object v && takes_borrow w))) (needs_off rule.FieldNotBuilt)) (same v)

  means_same : (p : Part) (a : Access) → means sources facts p a ≡ means sources other p a
  means_same (Contents cell trivial left) a = refl
  means_same (Allocation slot) a = refl
  means_same (Lent scope address) a = refl
  means_same (Building object field) a = building_same object field a
  means_same (InScope address scope) a = refl
  means_same (InSlot address slot) a = refl

  -- what accesses mean to the parts
  pub joint_same : (parts : List Part) (accesses : List Access) → flat_map (joint sources facts parts) accesses ≡ flat_map (joint sources other parts) accesses
  joint_same parts accesses =
      flat_map_same (joint sources facts parts) (joint sources other parts)
      (λ a. ap (shared_from 0) (map_same (λ p. means sources facts p a) (λ p. means sources other p a) (λ p. means_same p a) parts)) accesses

  -- and which parts there are
  pub parts_same : parts_of sources facts ≡ parts_of sources other
  parts_same = flat_map_same (parts_at sources facts) (parts_at sources other) (λ n. ap (λ f. parts_by sources f (value_of n) (source_at sources (value_of n))) (same (value_of n)))
      (range_with_len 0 (length sources))

-- the entries by number, and the shared ones, are the parts' table
pub batch_agrees : (sources : List Source) (f : Function) (g : Layout) (k : Known) (returns : List Bool) (parts : List Part) (own : List (List Entry)) (marks : List (Option Mark)) →
    AreReturns f g returns →
    ((n : ℕ) (item : Item) → item_at g n ≡ Some item → list_at own n ≡ flat_map (joint sources (facts_of k) parts) (accesses_with sources (marks_at k n) f item)) →
    marks ≡ map at_return parts →
    (count : ℕ) (facts : ValueId → Option Facts) → AreKindsBy count facts f g k → AgreesWith g (entries_with own marks returns) (batch_table sources facts f parts)
batch_agrees sources f g k returns parts own marks returns_are own_are marks_are count facts by n item e =
    ap₂ (λ x y. x ++ y)
    (own_are n item e ∙ ap (λ these. flat_map (joint sources (facts_of k) parts) (accesses_with sources these f item)) (by.marks_are n item e)
    ∙ joint_same sources (facts_of k) (known_or facts) by.facts_are parts (accesses_of sources facts f item))
    (ap₂ (λ m b. shared_if m b) marks_are (returns_are n item e))

mark_or_none : (o : Option Part) → unwrap_or (option_map at_return o) None ≡ option_and_then at_return o
mark_or_none None = refl
mark_or_none (Some p) = refl

-- what a `return` means to each of the parts, by their numbers
pub returns_listed : (parts : List Part) → map at_return parts ≡ map (return_mark parts) (range_with_len 0 (length parts))
returns_listed parts =
    fill_by_all (return_mark parts) (map at_return parts) (length parts) None (length-map parts at_return)
    (λ n lt. sym (unwrap_or-slice_get (map at_return parts) n None) ∙ ap (λ o. unwrap_or o None) (slice_get-map at_return parts n) ∙ mark_or_none (slice_get parts n))

-- one part more
shared_more : (n : ℕ) (marks : List (Option Mark)) (m : Option Mark) (j : ℕ) → n + length marks ≡ j → shared_from n (marks ++ m ∷ []) ≡ shared_from n marks ++ entry_if j m
shared_more n [] m j e = let same : n ≡ j = omega arith in append-nil (entry_if n m) ∙ ap (λ i. entry_if i m) same
shared_more n (x ∷ marks) m j e = ap (λ v. entry_if n x ++ v) (shared_more (n + 1) marks m j (omega arith)) ∙ sym (append_assoc (entry_if n x) (shared_from (n + 1) marks) (entry_if j m))

pub joint_more : (sources : List Source) (facts : ValueId → Facts) (parts : List Part) (a : Access) (n : ℕ) (d : Part) → n < length parts →
    joint sources facts (take (n + 1) parts) a ≡ joint sources facts (take n parts) a ++ entry_if n (means sources facts (get_or parts n d) a)
joint_more sources facts parts a n d lt =
    let h : Part → Option Mark = λ p. means sources facts p a in
    ap (λ v. shared_from 0 (map h v)) (take_more parts n d lt) ∙ ap (shared_from 0) (map-append h (take n parts) (get_or parts n d ∷ []))
    ∙ shared_more 0 (map h (take n parts)) (h (get_or parts n d)) n (let size : length (map h (take n parts)) ≡ n = length-map (take n parts) h ∙ length-take-le n parts (omega arith) in omega arith)

pub joint_grown : (sources : List Source) (facts : ValueId → Facts) (parts : List Part) (a : Access) (n : ℕ) (d : Part) (mark : Option Mark) (initial old new : List Entry) → n < length parts →
    old ≡ initial ++ joint sources facts (take n parts) a →
    mark ≡ means sources facts (get_or parts n d) a → new ≡ old ++ entry_if n mark → new ≡ initial ++ joint sources facts (take (n + 1) parts) a
joint_grown sources facts parts a n d mark initial old new lt before is more =
    more ∙ ap₂ (λ v m. v ++ entry_if n m) before is ∙ append_assoc initial (joint sources facts (take n parts) a) (entry_if n (means sources facts (get_or parts n d) a))
    ∙ ap (λ v. initial ++ v) (sym (joint_more sources facts parts a n d lt))
