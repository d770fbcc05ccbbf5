-- Which edges a terminator has.
use Rattle.std.proofs.Common.{ℕ, ◌≤◌, ◌<◌, arith, List, [], ◌∷◌, length, Option, Some, None, Bool, true, false, ◌&&◌, ◌==◌, IsTrue, IfSome}
use Rattle.std.specs.Prelude.{not}
use Rattle.std.specs.List.{list_all}
use Rattle.std.proofs.lemmas.Bool.Decides.{nat_tests}
use Rattle.std.proofs.lemmas.Bool.{and_parts}
use Rattle.sil_ast.specs.declared.inst.Edge.{Edge}
use Rattle.sil_ast.specs.declared.member.Member.{Member}
use Rattle.sil_ast.specs.declared.operands.Operand.{Operand}
use Rattle.sil_ast.specs.declared.place.BlockId.{BlockId}
use Rattle.numbered_form.specs.Lists.{Each, is_empty}
use Rattle.numbered_form.specs.inner.Limits.{IsEdgeInLimits}
use Rattle.numbered_form.specs.Names.{IsEdgeSpelled, IsMemberSpelled}
use Rattle.numbered_form.specs.inner.Parts.{are_cases, is_branch}
use Rattle.numbered_form.specs.inner.Types.{HasEdgeTypes, HasOperandType}
use Rattle.sil_printer_laws.proofs.OperandForms.{impossible}
use Rattle.sil_printer_laws.proofs.OperandReading.{AreTyped}
use Rattle.sil_printer_laws.proofs.Printable.{IsSmallEdge, IsSmallOperand}
use Rattle.sil_printer_laws.proofs.Tokens.{IsSmall}

other_length : (m n : ℕ) (b : Bool) → n < m → IsTrue (m == n && b) → IsTrue false
other_length m n b more h = let same : IsTrue (m == n) = (and_parts (m == n) b h).0 in grind (arith, nat_tests)

-- cases, and then at most one default
pub data AreCases : List Edge → Type 0 where
  no_case : AreCases []
  default_last : (block : BlockId) → IsSmall block.0 → AreCases (record { block = block; args = []; case_of = None } ∷ [])
  case_before : (block : BlockId) (m : Member) (es : List Edge) → IsSmall block.0 → IsMemberSpelled m → AreCases es
      → AreCases (record { block = block; args = []; case_of = Some m } ∷ es)

case_or_default : (block : BlockId) (args : List Operand) (case_of : Option Member) (es : List Edge)
    → IsTrue (are_cases (record { block = block; args = args; case_of = case_of } ∷ es)) → IfSome case_of IsMemberSpelled → IsSmall block.0 → (IsTrue (are_cases es) → AreCases es)
    → AreCases (record { block = block; args = args; case_of = case_of } ∷ es)
case_or_default block [] (Some m) es h spelled small rest = case_before block m es small spelled (rest h)
case_or_default block [] None [] h spelled small rest = default_last block small
case_or_default block [] None (e ∷ es) h spelled small rest = impossible h
case_or_default block (o ∷ os) (Some m) es h spelled small rest = impossible h
case_or_default block (o ∷ os) None es h spelled small rest = impossible h

cases_are : (es : List Edge) → IsTrue (are_cases es) → Each IsEdgeSpelled es → Each IsSmallEdge es → AreCases es
cases_are [] h spelled small = no_case
cases_are (e ∷ es) h spelled small = case_or_default e.block e.args e.case_of es h spelled.0 small.0.block (λ k. cases_are es k spelled.1 small.1)

-- the edges of a `switch_enum`: at least one
pub record AreSwitchEdges (es : List Edge) : Type 0 where
  pub some : IsTrue (not (is_empty es))
  pub cases : AreCases es

pub switch_edges : (es : List Edge) → IsTrue (not (is_empty es) && are_cases es) → Each IsEdgeSpelled es → Each IsSmallEdge es → AreSwitchEdges es
switch_edges es h spelled small = record {
  some = (and_parts (not (is_empty es)) (are_cases es) h).0;
  cases = cases_are es (and_parts (not (is_empty es)) (are_cases es) h).1 spelled small;
}

abbrev pub branch_to : BlockId → List Operand → Edge
branch_to block args = record { block = block; args = args; case_of = None }

-- `bb1(%1 : $T)`
pub data IsBranch : Edge → Type 0 where
  branch : (block : BlockId) (args : List Operand) → IsSmall block.0 → AreTyped args → length args ≤ 64 → IsBranch (branch_to block args)

branch_by : (block : BlockId) (args : List Operand) (case_of : Option Member) → IsTrue (is_branch (record { block = block; args = args; case_of = case_of }))
    → IsSmall block.0 → Each IsSmallOperand args → Each HasOperandType args → length args ≤ 64 → IsBranch (record { block = block; args = args; case_of = case_of })
branch_by block args None h small each types few = branch block args small (record { typed = h; small = each; types = types }) few
branch_by block args (Some m) h small each types few = impossible h

branch_is : (e : Edge) → IsTrue (is_branch e) → IsSmallEdge e → HasEdgeTypes e → IsEdgeInLimits e → IsBranch e
branch_is e h small types few = branch_by e.block e.args e.case_of h small.block small.args types few

pub data IsOneBranch : List Edge → Type 0 where
  only_to : (e : Edge) → IsBranch e → IsOneBranch (e ∷ [])

pub one_branch : (es : List Edge) → IsTrue (length es == 1 && list_all is_branch es) → Each IsSmallEdge es → Each HasEdgeTypes es → Each IsEdgeInLimits es → IsOneBranch es
one_branch [] h small types few = impossible h
one_branch (e ∷ []) h small types few = only_to e (branch_is e (and_parts (is_branch e) true h).0 small.0 types.0 few.0)
one_branch (e ∷ f ∷ es) h small types few = impossible (other_length (length (e ∷ f ∷ es)) 1 (list_all is_branch (e ∷ f ∷ es)) (omega arith) h)

pub data IsTwoBranches : List Edge → Type 0 where
  either_to : (e f : Edge) → IsBranch e → IsBranch f → IsTwoBranches (e ∷ f ∷ [])

pub two_branches : (es : List Edge) → IsTrue (length es == 2 && list_all is_branch es) → Each IsSmallEdge es → Each HasEdgeTypes es → Each IsEdgeInLimits es → IsTwoBranches es
two_branches [] h small types few = impossible h
two_branches (e ∷ []) h small types few = impossible h
two_branches (e ∷ f ∷ []) h small types few =
    let second = (and_parts (is_branch e) (is_branch f && true) h).1 in
    either_to e f (branch_is e (and_parts (is_branch e) (is_branch f && true) h).0 small.0 types.0 few.0)
    (branch_is f (and_parts (is_branch f) true second).0 small.1.0 types.1.0 few.1.0)
two_branches (e ∷ f ∷ g ∷ es) h small types few = impossible (other_length (length (e ∷ f ∷ g ∷ es)) 2 (list_all is_branch (e ∷ f ∷ g ∷ es)) (omega arith) h)
