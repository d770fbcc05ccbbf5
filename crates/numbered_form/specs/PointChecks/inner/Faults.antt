-- All faults that a check finds in a function, in the order of a pass over its points, and the first of some by value, rule and point.
use Rattle.std.specs.Prelude.{ℕ, ◌+◌, List, [], ◌∷◌, ◌++◌, Bool, false, ◌==◌, Option, Some, None, nat_lt, if◌then◌else◌}
use Rattle.sil_ast.specs.declared.function.Block.{Block}
use Rattle.sil_ast.specs.declared.function.Function.{Function}
use Rattle.sil_ast.specs.declared.inst.Inst.{Inst}
use Rattle.sil_ast.specs.declared.place.ValueId.{ValueId}
use Rattle.numbered_form.specs.Insts.{insts_of}
use Rattle.sil_rules.specs.declared.rule.Rule.{Rule}
use Rattle.numbered_form.specs.PointChecks.Points.{key_at}
use Rattle.numbered_form.specs.declared.point_checks.fault.PointFault.{PointFault}

abbrev pub fault_at : ℕ → ℕ → Rule → ValueId → PointFault
fault_at n k r v = record { rule = r; subject = v; point = record { block = record { 0 = n }; index = k } }

abbrev pub key_of : PointFault → List ℕ
key_of x = key_at x.rule x.subject x.point.block.0 x.point.index

-- whether the first list of numbers comes before the second one
abbrev pub comes_before : List ℕ → List ℕ → Bool
comes_before [] ys = false
comes_before (x ∷ xs) [] = false
comes_before (x ∷ xs) (y ∷ ys) = if x == y then comes_before xs ys else nat_lt x y

abbrev pub lesser : Option PointFault → PointFault → PointFault
lesser None x = x
lesser (Some a) x = if comes_before (key_of x) (key_of a) then x else a

-- the first of what was found and of some more
abbrev pub least : Option PointFault → List PointFault → Option PointFault
least found [] = found
least found (x ∷ xs) = least (Some (lesser found x)) xs

-- the faults of some things that are numbered, from n
abbrev pub numbered : {A : Type 0} → (ℕ → A → List PointFault) → ℕ → List A → List PointFault
numbered faults n [] = []
numbered faults n (x ∷ xs) = faults n x ++ numbered faults (n + 1) xs

-- one fault or none
abbrev pub fault_where : Bool → PointFault → List PointFault
fault_where b x = if b then x ∷ [] else []

module _ (args_faults : ℕ → Block → List PointFault) (inst_faults : ℕ → ℕ → Inst → List PointFault) where
  abbrev pub block_faults : ℕ → Block → List PointFault
  block_faults n b = args_faults n b ++ numbered (inst_faults n) 0 (insts_of b)

  -- all faults of a function
  abbrev pub faults_of : Function → List PointFault
  faults_of f = numbered block_faults 0 f.blocks
