-- What a function and the one where a copy is lent have in common, to memory.
use Rattle.std.proofs.Common.{◌≡◌}
use Rattle.sil_verifier_trails.specs.memory_rules_accesses.Accesses.{accesses_of}
use Rattle.sil_verifier_trails.specs.memory_rules_accesses.Sources.{sources_of}
use Rattle.ownership_kinds_chains.specs.OwnershipChains.Facts.{known_or}
use Rattle.copy_pairing_model.specs.ownership_kinds_origins.Facts.{facts_in}
use Rattle.sil_ast.specs.declared.function.Function.{Function}
use Rattle.sil_ast.specs.declared.place.ValueId.{ValueId}
use Rattle.sil_cfg.specs.Items.{IsItem, flow_of}
use Rattle.sil_cfg.specs.Returns.{is_return}
use Rattle.sil_cfg.specs.declared.item.Item.{Item}
use Rattle.sil_types_declarations.specs.TypeDefinitions.Declarations.{Declarations}
use Rattle.copy_pairing_acceptance.proofs.LentMemory.Means.{AreAlike, AreLentFacts}
use Rattle.copy_pairing_acceptance.proofs.LentMemory.Sources.{AreLentSources}

-- g is the function f with the copy c of v lent: its sources, facts, accesses and walks
pub record AreLentAlike (d : Declarations) (f g : Function) (c v : ValueId) : Type 0 where
  pub sources : AreLentSources (sources_of d f) (sources_of d g) c v
  pub facts : AreLentFacts (known_or (facts_in d f)) (known_or (facts_in d g)) c
  pub accesses : (i : Item) → IsItem f i → AreAlike c v (accesses_of (sources_of d f) (facts_in d f) f i) (accesses_of (sources_of d g) (facts_in d g) g i)
  pub returns : (i : Item) → is_return g i ≡ is_return f i
  pub flow : flow_of g ≡ flow_of f
