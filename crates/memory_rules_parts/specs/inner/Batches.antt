-- Parts that are searched together: each by its number among them.
use Rattle.std.specs.Prelude.{◌≡◌, ◌≤◌, ℕ, List, [], ◌∷◌, ◌++◌, All, Bool, false, length, map, nat_lt, slice_get, slice_index_or, Option, Some, None}
use Rattle.std.specs.Prelude.{IfSome, option_and_then}
use Rattle.std.specs.List.{flat_map}
use Rattle.std.specs.declared.alloc.Global.{Global}
use Rattle.std.specs.declared.vec.Vec.{Vec}
use Rattle.sil_ast.specs.declared.function.Function.{Function}
use Rattle.sil_ast.specs.declared.place.ValueId.{ValueId}
use Rattle.sil_cfg.specs.Layout.{Layout, item_at}
use Rattle.sil_cfg.specs.Returns.{is_return}
use Rattle.sil_cfg.specs.declared.item.Item.{Item}
use Rattle.sil_rules.specs.Order.{IsFirst}
use Rattle.ownership_kinds_chains.specs.OwnershipChains.Facts.{known_or}
use Rattle.ownership_kinds_chains.specs.declared.ownership_chains.facts.Facts.{Facts}
use Rattle.ownership_kinds_chains.specs.OwnershipMarks.Known.{AreKindsBy, Known}
use Rattle.reach_engine_marks.specs.PathChecks.First as paths
use Rattle.reach_engine_marks.specs.PathChecks.inner.Shared.{entry_if, shared_from, shared_if}
use Rattle.reach_engine_marks.specs.declared.path_checks.entry.Entry.{Entry}
use Rattle.reach_engine_marks.specs.declared.path_checks.fault.PathFault.{PathFault}
use Rattle.reach_engine_marks.specs.declared.path_patterns.mark.Mark.{Mark}
use Rattle.memory_rules_accesses.specs.Accesses.{accesses_of}
use Rattle.memory_rules_accesses.specs.declared.access.Access.{Access}
use Rattle.memory_rules_accesses.specs.declared.source.Source.{Source}
use Rattle.memory_rules_parts.specs.Parts.{at_return, means, subject_of}
use Rattle.sil_rules.specs.RuleFaults.Keys.{fault_key}
use Rattle.memory_rules_parts.specs.Shown.{IsShown}
use Rattle.memory_rules_parts.specs.inner.Concerned.{AreConcerned}
use Rattle.memory_rules_parts.specs.inner.Index.{IsIndexOf}
use Rattle.sil_rules.specs.declared.rule_faults.fault.RuleFault.{RuleFault}
use Rattle.memory_rules_parts.specs.declared.part.Part.{Part}

-- what an access means to each of the parts
abbrev pub joint : List Source → (ValueId → Facts) → List Part → Access → List Entry
joint sources facts parts a = shared_from 0 (map (λ p. means sources facts p a) parts)

abbrev pub means_at : List Source → (ValueId → Facts) → Access → Option Part → Option Mark
means_at sources facts a None = None
means_at sources facts a (Some p) = means sources facts p a

-- what it means to the part with a number
abbrev pub entry_at : List Source → (ValueId → Facts) → List Part → Access → ℕ → List Entry
entry_at sources facts parts a n = entry_if n (means_at sources facts a (slice_get parts n))

-- what a `return` means to it
abbrev pub return_mark : List Part → ℕ → Option Mark
return_mark parts n = option_and_then at_return (slice_get parts n)

-- what is made of the parts before they are searched: the values that concern them, and an index, where there is one
pub record IsBatch (sources : List Source) (parts : List Part) (concerned : List Bool) (index : Option (Vec (Vec ℕ Global) Global)) : Type 0 where
  pub few : length parts ≤ 1024
  pub concerned_are : AreConcerned sources parts concerned
  pub index_is : IfSome index (λ rows. IsIndexOf sources parts rows.items)

-- the table of all of them
abbrev pub batch_table : List Source → (ValueId → Option Facts) → Function → List Part → Item → List Entry
batch_table sources facts f parts item = flat_map (joint sources (known_or facts) parts) (accesses_of sources facts f item)
    ++ shared_if (map at_return parts) (is_return f item)

abbrev pub AreReturns : Function → Layout → List Bool → Type 0
AreReturns f g returns = (i : ℕ) (item : Item) → item_at g i ≡ Some item → slice_index_or returns i false ≡ is_return f item

-- the first of what the parts' table shows
abbrev pub IsFirstNumber : List Source → Function → Layout → Known → List Part → Option PathFault → Type 0
IsFirstNumber sources f g k parts fault = (count : ℕ) (facts : ValueId → Option Facts) → AreKindsBy count facts f g k
    → paths.IsFirst f (batch_table sources facts f parts) fault

-- the first of what is shown at these parts
abbrev pub IsFirstAmong : List Source → Function → Layout → Known → List Part → Option RuleFault → Type 0
IsFirstAmong sources f g k parts found = (count : ℕ) (facts : ValueId → Option Facts) → AreKindsBy count facts f g k
    → IsFirst fault_key (IsShown sources facts f parts) found

-- none has a lesser subject than one before it
abbrev pub AreRising : List Part → Type 0
AreRising [] = Unit {0}
AreRising (p ∷ parts) = All (λ q. (subject_of p).0 ≤ (subject_of q).0) parts × AreRising parts

-- there is a fault, of a lesser subject
abbrev pub is_behind : Option RuleFault → ValueId → Bool
is_behind None subject = false
is_behind (Some fault) subject = nat_lt fault.subject.0 subject.0
