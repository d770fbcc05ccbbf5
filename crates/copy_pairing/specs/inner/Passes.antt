-- Passing the copies of a module in the order of the text, each of which is rewritten as it can go.
use Rattle.std.specs.Prelude.{◌≡◌, ℕ, ◌≤◌, List, [], length, Option, Some, None, slice_get}
use Rattle.sil_ast.specs.declared.function.Block.{Block}
use Rattle.sil_ast.specs.declared.function.Function.{Function}
use Rattle.sil_ast.specs.declared.inst.Inst.{Inst}
use Rattle.sil_ast.specs.declared.module.Module.{Module}
use Rattle.sil_ast.specs.declared.place.PointId.{PointId}
use Rattle.sil_rules.specs.Order.{NotAfter}
use Rattle.sil_types_declarations.specs.TypeDefinitions.Declarations.{declarations_of}
use Rattle.copy_pairing_model.specs.Optimised.{IsOptimised, Rewrites, text_key}
use Rattle.sil_verifier.specs.sil_verifier_accepted.AcceptedModules.inner.Checked.{IsVerified}

abbrev pub blocks_in : Option Function → List Block
blocks_in None = []
blocks_in (Some f) = f.blocks

abbrev pub insts_in : Option Block → List Inst
insts_in None = []
insts_in (Some b) = b.insts

-- the blocks of the function with a number, and the instructions of a block of it
abbrev pub blocks_at : Module → ℕ → List Block
blocks_at m n = blocks_in (slice_get m.functions n)

abbrev pub insts_at : Module → ℕ → ℕ → List Inst
insts_at m n b = insts_in (slice_get (blocks_at m n) b)

-- the second module has so many functions and blocks, and no more instructions in any block
pub record IsNoLonger (old new : Module) : Type 0 where
  pub functions : length new.functions ≡ length old.functions
  pub blocks : (n : ℕ) → length (blocks_at new n) ≡ length (blocks_at old n)
  pub insts : (n b : ℕ) → length (insts_at new n b) ≤ length (insts_at old n b)

-- no copy before the place in the text can go
abbrev pub NoneBefore : Module → ℕ → PointId → Type 0
NoneBefore m n p = (k : ℕ) (q : PointId) (other : Module) → Rewrites m k q other → NotAfter (text_key n p) (text_key k q)

-- from one place to another one each copy was passed
pub record ArePassed (old : Module) (n : ℕ) (p : PointId) (new : Module) (k : ℕ) (q : PointId) : Type 0 where
  pub verified : IsVerified new
  pub declarations : declarations_of new ≡ declarations_of old
  pub shape : IsNoLonger old new
  pub none : NoneBefore old n p → NoneBefore new k q
  pub leads : NoneBefore old n p → (last : Module) → IsOptimised new last → IsOptimised old last
