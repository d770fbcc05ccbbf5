-- What stands at a point, and the order of faults at points.
use Rattle.std.specs.Prelude.{◌≡◌, ℕ, List, [], ◌∷◌, Some, slice_get}
use Rattle.sil_ast.specs.declared.function.Block.{Block}
use Rattle.sil_ast.specs.declared.function.Function.{Function}
use Rattle.sil_ast.specs.declared.inst.Inst.{Inst}
use Rattle.sil_ast.specs.declared.place.ValueId.{ValueId}
use Rattle.numbered_form.specs.Insts.{insts_of}
use Rattle.sil_rules.specs.Rules.{number_of}
use Rattle.sil_rules.specs.declared.rule.Rule.{Rule}

-- the instruction at a point, its terminator last
pub record IsAt (f : Function) (block index : ℕ) (i : Inst) : Type 0 where
  pub within : Block
  pub is_block : slice_get f.blocks block ≡ Some within
  pub is_inst : slice_get (insts_of within) index ≡ Some i

-- by value, then by rule, then by point
abbrev pub key_at : Rule → ValueId → ℕ → ℕ → List ℕ
key_at r v block index = v.0 ∷ number_of r ∷ block ∷ index ∷ []
