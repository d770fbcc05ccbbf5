-- What the definitions keep.
use Rattle.std.specs.Prelude.{◌≡◌, ℕ, ◌<◌}
use Rattle.sil_ast.specs.declared.module.Module.{Module}
use Rattle.sil_ast.specs.declared.place.PointId.{PointId}
use Rattle.copy_pairing_model.specs.Counts.{copies_of}
use Rattle.copy_pairing_model.specs.Optimised.{IsOptimised, Rewrites}

-- a module has one optimised module at most
abbrev pub AreUnique : Type 0
AreUnique = (m one other : Module) → IsOptimised m one → IsOptimised m other → one ≡ other

-- each rewriting leaves fewer, so that they come to an end
abbrev pub AreFewer : Type 0
AreFewer = (m : Module) (n : ℕ) (p : PointId) (next : Module) → Rewrites m n p next → copies_of next < copies_of m
