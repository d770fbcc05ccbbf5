-- What is asked of the function, and of its copy. Each function of an accepted module gives it.
use Rattle.std.specs.Prelude.{◌≡◌, ◌<◌, ℕ, [], ◌∷◌, Some, length}
use Rattle.copy_pairing_model.specs.Copies.{IsCopy}
use Rattle.copy_pairing_model.specs.Removable.{IsBorrowable}
use Rattle.instruction_table.specs.declared.op.Op.TheVariants as op
use Rattle.sil_cfg_items.specs.Parts.{inst_at, terminator_of}
use Rattle.numbered_form.specs.Numbering.{AreCountedFrom, values_of}
use Rattle.numbered_form.specs.inner.Parts.{HasItsParts, IsInside, IsTerminator}
use Rattle.ownership_kinds_chains.specs.OwnershipChains.Chains.{IsInRange}
use Rattle.ownership_kinds_chains.specs.OwnershipChains.Facts.{AreFactsOf, facts_with}
use Rattle.ownership_kinds_chains.specs.declared.ownership_chains.facts.Facts.{Facts}
use Rattle.copy_pairing_model.specs.ownership_kinds_origins.Facts.{facts_in}
use Rattle.sil_verifier_trails.specs.ownership_kinds.Statics.{HasKinds, IsDefinedAt}
use Rattle.copy_pairing_model.specs.ownership_kinds_origins.Origins.{definitions_of}
use Rattle.numbered_form.specs.PointChecks.Points.{IsAt}
use Rattle.sil_ast.specs.declared.function.Function.{Function}
use Rattle.sil_ast.specs.declared.inst.Inst.{Inst}
use Rattle.sil_ast.specs.declared.place.PointId.{PointId}
use Rattle.sil_ast.specs.declared.place.ValueId.{ValueId}
use Rattle.sil_types_declarations.specs.TypeDefinitions.Declarations.{Declarations}
use Rattle.sil_types_declarations.specs.declared.type_definitions.kind.Kind.TheVariants as kind

abbrev pub IsValue : Function → ValueId → Type 0
IsValue f v = v.0 < length (values_of f.blocks)

-- numbered form and typing
pub record IsFormed (f : Function) : Type 0 where
  pub counted : AreCountedFrom 0 (values_of f.blocks)
  pub inside : (q : PointId) (i : Inst) → inst_at f q ≡ Some i → IsInside i
  pub ends : (b : ℕ) (i : Inst) → terminator_of f b ≡ Some i → IsTerminator i
  pub parts : (n k : ℕ) (i : Inst) → IsAt f n k i → HasItsParts i
  -- a copy has one result
  pub one_result : (n k : ℕ) (i : Inst) → IsAt f n k i → i.op ≡ op.CopyValue → length i.results ≡ 1
  pub defined : (w : ValueId) → IsValue f w → (n : ℕ) × (k : ℕ) × IsDefinedAt f w n k

-- the rules on kinds
pub record HasFacts (d : Declarations) (f : Function) : Type 0 where
  pub kinds : HasKinds d f
  pub ranged : IsInRange (definitions_of d f)
  pub known : (w : ValueId) → IsValue f w → (x : Facts) × (facts_in d f w ≡ Some x) × AreFactsOf (definitions_of d f) w x

-- and a copy that can be a borrow
pub record Ready (d : Declarations) (f : Function) (p : PointId) (c v : ValueId) : Type 0 where
  pub formed : IsFormed f
  pub facts : HasFacts d f
  pub copy : IsCopy f p c v
  pub owned : facts_in d f c ≡ Some (facts_with kind.Owned (c ∷ []))
  pub lends : IsBorrowable (facts_in d f) f c v
