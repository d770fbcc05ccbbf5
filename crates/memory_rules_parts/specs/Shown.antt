-- What is shown at a part by itself, and the first of all parts.
use Rattle.std.specs.Prelude.{◌≡◌, ℕ, List, [], ◌++◌, Contains, cond, find, option_and_then, Option, None}
use Rattle.std.specs.List.{flat_map}
use Rattle.std.specs.Option.{option_to_list}
use Rattle.sil_ast.specs.declared.function.Function.{Function}
use Rattle.sil_ast.specs.declared.place.ValueId.{ValueId}
use Rattle.sil_cfg.specs.Returns.{is_return}
use Rattle.sil_cfg.specs.Layout.{Layout}
use Rattle.sil_cfg.specs.declared.item.Item.{Item}
use Rattle.sil_rules.specs.Order.{IsFirst}
use Rattle.ownership_kinds_chains.specs.OwnershipChains.Facts.{known_or}
use Rattle.ownership_kinds_chains.specs.declared.ownership_chains.facts.Facts.{Facts}
use Rattle.ownership_kinds_chains.specs.OwnershipMarks.Known.{AreKindsBy, Known}
use Rattle.reach_engine_marks.specs.PathChecks.First.{IsBreakShown}
use Rattle.reach_engine_marks.specs.declared.path_patterns.mark.Mark.{Mark}
use Rattle.memory_rules_accesses.specs.declared.access.Access.{Access}
use Rattle.memory_rules_accesses.specs.declared.source.Source.{Source}
use Rattle.memory_rules_accesses.specs.Accesses.{accesses_of}
use Rattle.sil_rules.specs.RuleFaults.Keys.{fault_key}
use Rattle.sil_rules.specs.declared.rule_faults.fault.RuleFault.{RuleFault}
use Rattle.memory_rules_parts.specs.Loans.{disturbs, root_of}
use Rattle.memory_rules_parts.specs.Parts.{at_return, means, parts_of, subject_of}
use Rattle.memory_rules_parts.specs.declared.part.Part.{Part}
use Rattle.memory_rules_parts.specs.declared.part.Part.TheVariants.{Contents, Allocation, Lent, Building, InScope, InSlot}

abbrev pub first_root : List Source → Part → List Access → Option ValueId
first_root sources (Contents cell trivial left) accesses = None
first_root sources (Allocation slot) accesses = None
first_root sources (Lent scope address) accesses = option_and_then (root_of sources) (find (disturbs sources address) accesses)
first_root sources (Building object field) accesses = None
first_root sources (InScope address scope) accesses = None
first_root sources (InSlot address slot) accesses = None

module _ (sources : List Source) (facts : ValueId → Option Facts) (f : Function) where
  abbrev pub marks_of_access : Part → Access → List Mark
  marks_of_access p a = option_to_list (means sources (known_or facts) p a)

  -- the marks that an item has for one part: those of its accesses, and of a `return`
  abbrev pub part_marks : Part → Item → List Mark
  part_marks p item = flat_map (marks_of_access p) (accesses_of sources facts f item) ++ cond (is_return f item) (option_to_list (at_return p)) []

  -- the other value that takes part: the root of the first access that disturbs a loan
  abbrev pub other_of : Part → Item → Option ValueId
  other_of p item = first_root sources p (accesses_of sources facts f item)

-- a walk shows it at one of the parts, by itself
pub record IsShown (sources : List Source) (facts : ValueId → Option Facts) (f : Function) (parts : List Part) (s : RuleFault) : Type 0 where
  pub part : Part
  pub there : Contains parts part
  pub subject : subject_of part ≡ s.subject
  pub item : Item
  pub shown : IsBreakShown f (part_marks sources facts f part) s.rule s.walk s.point item
  pub other : s.other ≡ other_of sources facts f part item

-- this comes first of what is shown at any part, whichever facts the kinds are by
abbrev pub IsFirstFinding : List Source → Function → Layout → Known → Option RuleFault → Type 0
IsFirstFinding sources f g k found =
    (count : ℕ) (facts : ValueId → Option Facts) → AreKindsBy count facts f g k
    → IsFirst fault_key (IsShown sources facts f (parts_of sources (known_or facts))) found
