-- An access that has to do with no value that concerns some parts means nothing to any of them.
use Rattle.std.proofs.Common.{◌≡◌, ℕ, ◌+◌, List, [], ◌∷◌, ◌++◌, map, refl, sym, ap, ap₂, ◌∙◌, All, Bool, true, false, Option, Some, None, append-nil}
use Rattle.std.specs.List.{flat_map, list_any}
use Rattle.std.proofs.lemmas.Bool.{or_parts}
use Rattle.std.proofs.lemmas.List.Elements.{All-append, All-cons, All-contains, All-head, All-nil, All-tail, All-weaker}
use Rattle.sil_ast.specs.declared.place.ValueId.{ValueId}
use Rattle.ownership_kinds_chains.specs.declared.ownership_chains.facts.Facts.{Facts}
use Rattle.reach_engine_marks.specs.PathChecks.inner.Shared.{entry_if, shared_from}
use Rattle.reach_engine_marks.specs.declared.path_checks.entry.Entry.{Entry}
use Rattle.memory_rules_accesses.specs.declared.access.Access.{Access}
use Rattle.memory_rules_accesses.specs.declared.access.Access.TheVariants.{Ends, Begins, Allocates, Deallocates, Given, Does, Mentions}
use Rattle.memory_rules_accesses.specs.declared.source.Source.{Source}
use Rattle.memory_rules_accesses.specs.Locations.{location_of, object_built}
use Rattle.memory_rules_accesses.specs.declared.location.Location.{Location}
use Rattle.memory_rules_parts.specs.inner.Batches.{joint}
use Rattle.memory_rules_parts.specs.inner.Concerned.{AreConcerned, IsConcerned, Keeps, has_key, has_object, has_root, is_built, is_concerned, may_mean, value_in}
use Rattle.memory_rules_parts.specs.inner.Keys.{built_key, keys_of_access, keys_of_part, object_key, root_key}
use Rattle.memory_rules_parts.specs.Parts.{means}
use Rattle.memory_rules_parts.specs.declared.key.Key.{Key}
use Rattle.memory_rules_parts.specs.declared.key.Key.TheVariants.{Turned, Named, Written}
use Rattle.memory_rules_parts.specs.declared.part.Part.{Part}
use Rattle.memory_rules_parts.proofs.Reached.{AreApart, unreached}

abbrev AreKeys : List Bool → List Key → Type 0
AreKeys concerned keys = All (λ key. has_key concerned key ≡ true) keys

keys_kept : (old new : List Bool) → Keeps old new → (keys : List Key) → AreKeys old keys → AreKeys new keys
keys_kept old new keeps keys all = All-weaker (λ key. has_key old key ≡ true) (λ key. has_key new key ≡ true) (λ key e. keeps (value_in key) e) keys all

pub parts_kept : (sources : List Source) (old new : List Bool) → Keeps old new → (parts : List Part) → AreConcerned sources parts old → AreConcerned sources parts new
parts_kept sources old new keeps parts all = All-weaker (IsConcerned sources old) (IsConcerned sources new) (λ p are. keys_kept old new keeps (keys_of_part sources p) are) parts all

both : (b : Bool) → b ≡ true → b ≡ false → ⊥
both true t f = cc
both false t f = cc

module _ (sources : List Source) (facts : ValueId → Facts) (concerned : List Bool) where
  abbrev IsNoKey : Key → Type 0
  IsNoKey key = has_key concerned key ≡ false

  one : (key : Key) → has_key concerned key ≡ false → All IsNoKey (key ∷ [])
  one key e = All-cons IsNoKey key [] e (All-nil IsNoKey)

  no_object : (o : Option ValueId) → has_object concerned o ≡ false → All IsNoKey (object_key o)
  no_object None e = All-nil IsNoKey
  no_object (Some object) e = one (Named object) e

  no_root : (o : Option Location) → has_root concerned o ≡ false → All IsNoKey (root_key o)
  no_root None e = All-nil IsNoKey
  no_root (Some l) e = one (Written l.root) e

  none_built : (bases : List ValueId) → list_any (is_built sources concerned) bases ≡ false → All IsNoKey (flat_map (built_key sources) bases)
  none_built [] e = All-nil IsNoKey
  none_built (b ∷ bases) e =
      let parts = or_parts (is_built sources concerned b) (list_any (is_built sources concerned) bases) e in
      All-append IsNoKey (built_key sources b) (flat_map (built_key sources) bases) (no_object (object_built sources b) parts.0) (none_built bases parts.1)

  none_met : (a : Access) → may_mean sources facts concerned a ≡ false → All IsNoKey (keys_of_access sources facts a)
  none_met (Ends v) e = one (Turned v) e
  none_met (Begins v) e = one (Turned v) e
  none_met (Allocates v) e = one (Turned v) e
  none_met (Deallocates v) e =
      let parts = or_parts (is_concerned concerned v) (has_root concerned (location_of sources v)) e in
      All-cons IsNoKey (Turned v) (root_key (location_of sources v)) parts.0 (no_root (location_of sources v) parts.1)
  none_met (Given v content) e = one (Turned v) e
  none_met (Does x) e = cc
  none_met (Mentions v w) e =
      let parts = or_parts (is_concerned concerned v) (list_any (is_built sources concerned) (facts v).bases) e in
      All-cons IsNoKey (Named v) (flat_map (built_key sources) (facts v).bases) parts.0 (none_built (facts v).bases parts.1)

  apart : (p : Part) (a : Access) → IsConcerned sources concerned p → may_mean sources facts concerned a ≡ false → AreApart (keys_of_access sources facts a) (keys_of_part sources p)
  apart p a is none key of_access of_part =
      both (has_key concerned key) (All-contains (λ x. has_key concerned x ≡ true) (keys_of_part sources p) key is of_part)
      (All-contains IsNoKey (keys_of_access sources facts a) key (none_met a none) of_access)

  unmeant : (parts : List Part) (a : Access) (n : ℕ) → AreConcerned sources parts concerned → may_mean sources facts concerned a ≡ false → shared_from n (map (λ p. means sources facts p a) parts) ≡ []
  unmeant [] a n are none = refl
  unmeant (p ∷ parts) a n are none =
      ap₂ (λ u v. u ++ v) (ap (entry_if n) (unreached sources facts p a (apart p a (All-head (IsConcerned sources concerned) p parts are) none)))
      (unmeant parts a (n + 1) (All-tail (IsConcerned sources concerned) p parts are) none)

  -- so that there is nothing to add for it
  pub nothing_added : (parts : List Part) (a : Access) (before : List Entry) → AreConcerned sources parts concerned → may_mean sources facts concerned a ≡ false
      → before ≡ before ++ joint sources facts parts a
  nothing_added parts a before are none = sym (ap (λ v. before ++ v) (unmeant parts a 0 are none) ∙ append-nil before)
