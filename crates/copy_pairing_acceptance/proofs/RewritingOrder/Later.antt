-- Behind the rewriting of the first copy that can go, each copy that can go comes later in the text.
use Rattle.std.proofs.Common.{◌≡◌, ℕ, Some}
use Rattle.std.specs.Prelude.{slice_get}
use Rattle.copy_pairing_model.specs.Copies.{IsCopy}
use Rattle.copy_pairing_model.specs.Optimised.{Rewrites, facts_of, lends, moves, text_key}
use Rattle.copy_pairing_model.specs.Removable.{IsBorrowable}
use Rattle.copy_pairing_model.specs.Rewritten.{lent, moved}
use Rattle.sil_ast.specs.declared.function.Function.{Function}
use Rattle.sil_ast.specs.declared.module.Module.{Module}
use Rattle.sil_ast.specs.declared.place.PointId.{PointId}
use Rattle.sil_ast.specs.declared.place.ValueId.{ValueId}
use Rattle.sil_rules.specs.Order.{NotAfter}
use Rattle.sil_verifier_trails.specs.sil_verifier_accepted.AcceptedModules.inner.Checked.{IsVerified}
use Rattle.sil_types_declarations.specs.TypeDefinitions.Declarations.{declarations_of}
use Rattle.copy_pairing_acceptance.proofs.LentFunctions.Clean.{lent_ready}
use Rattle.copy_pairing_acceptance.proofs.LentFunctions.Ready.{Ready}
use Rattle.copy_pairing_acceptance.specs.RewritingOrder.inner.Laws.{LaterOnesAreLeft}
use Rattle.copy_pairing_acceptance.proofs.RewritingOrder.LentBack as lending
use Rattle.copy_pairing_acceptance.proofs.RewritingOrder.MovedBack.{moved_keeps}
use Rattle.copy_pairing_acceptance.proofs.RewritingOrder.Order.{KeepsBefore, none_before}

lent_keeps : (m : Module) (n : ℕ) (f : Function) (p : PointId) (c v : ValueId) → IsVerified m → slice_get m.functions n ≡ Some f → IsCopy f p c v
    → IsBorrowable (facts_of m f) f c v → KeepsBefore m p f (lent c f)
lent_keeps m n f p c v verified there copy b =
    let r : Ready (declarations_of m) f p c v = lent_ready m n f p c v verified there copy b in
    record {
      none_there = lending.none_there (declarations_of m) f p c v r;
      copies = λ q e w before here. lending.copy_back c f q e w here;
      borrowable = λ q e w before here h. lending.borrowable_back (declarations_of m) f p c v r e w h;
      movable = λ q e w before here h. lending.movable_back (declarations_of m) f p c v r q e w h;
    }

by_rewriting : (m : Module) → IsVerified m → (k : ℕ) (p : PointId) (next : Module) → Rewrites m k p next
    → ((n : ℕ) (q : PointId) (other : Module) → Rewrites m n q other → NotAfter (text_key k p) (text_key n q))
    → (n : ℕ) (q : PointId) (other : Module) → Rewrites next n q other → ¬ NotAfter (text_key n q) (text_key k p)
by_rewriting m verified k p _ (lends f c v there copy b) first n q other h =
    none_before m k p (lent c) f there first (lent_keeps m k f p c v verified there copy b) n q other h
by_rewriting m verified k p _ (moves f c v there copy never movable) first n q other h =
    none_before m k p (moved p movable.last) f there first (moved_keeps m k f verified there p c v copy movable) n q other h

pub later_left : LaterOnesAreLeft
later_left m next other verified h n q again = by_rewriting m verified h.function h.point next h.rewrites h.first n q other again
