-- One pass in the order of the text leaves no copy that can go.
use Rattle.std.proofs.Common.{◌≡◌, inl, inr, ℕ, ◌+◌, ◌≤◌, length, refl, sym, ◌∙◌, subst, arith}
use Rattle.sil_ast.specs.declared.module.Module.{Module}
use Rattle.sil_ast.specs.declared.place.PointId.{PointId}
use Rattle.sil_cfg.specs.Items.{point_at}
use Rattle.sil_rules.specs.Order.{NotAfter}
use Rattle.sil_types_declarations.specs.TypeDefinitions.Declarations.{Declarations, declarations_of}
use Rattle.sil_types_declarations.specs.TypeDefinitions.Rules.{AreDeclarationsOf}
use Rattle.copy_pairing_model.proofs.NoneLeft.{none_removable}
use Rattle.copy_pairing_model.specs.Optimised.{HasNoRemovable, IsOptimised, Rewrites, RewritesFirst, done, more, text_key}
use Rattle.sil_verifier.specs.sil_verifier_accepted.AcceptedModules.inner.Checked.{IsVerified}
use Rattle.copy_pairing_acceptance.specs.RewritingOrder.inner.Laws.{LaterOnesAreLeft}
use Rattle.copy_pairing_acceptance.specs.RewritingLaws.inner.Laws.{RewritingKeepsVerified}
use Rattle.copy_pairing.specs.inner.Passes.{ArePassed, NoneBefore, blocks_at, insts_at}
use Rattle.copy_pairing.specs.inner.Turns.{Turned, stays, turns}
use Rattle.copy_pairing.proofs.Keys.{behind, first_place, next_block, next_function, next_index, place}
use Rattle.copy_pairing.proofs.Shapes.{StandsAt, rewritten_declares, rewritten_shape, same_shape, shape_on, stands_at}

pub none_at_first : (m : Module) → NoneBefore m 0 (point_at 0 0)
none_at_first m k q other r = first_place k q.block.0 q.index

-- a rewriting at a place is one at the same place, however that is told
same_place : (m other : Module) (n k : ℕ) (p q : PointId) → n ≡ k → p.block.0 ≡ q.block.0 → p.index ≡ q.index → Rewrites m k q other → Rewrites m n p other
same_place m other n k p q a b i r =
    let one : Rewrites m n q other = subst (λ x. Rewrites m x q other) (sym a) r in
    let two : Rewrites m n (point_at p.block.0 q.index) other = subst (λ x. Rewrites m n (point_at x q.index) other) (sym b) one in
    subst (λ x. Rewrites m n (point_at p.block.0 x) other) (sym i) two

index_passed : (m : Module) (n : ℕ) (p : PointId) → ((next : Module) → Rewrites m n p next → ⊥) → NoneBefore m n p → NoneBefore m n (point_at p.block.0 (p.index + 1))
index_passed m n p none before k q other r =
    next_index n p.block.0 p.index k q.block.0 q.index (before k q other r) (λ a b i. none other (same_place m other n k p q a b i r))

block_passed : (m : Module) (n b i : ℕ) → length (insts_at m n b) ≤ i → NoneBefore m n (point_at b i) → NoneBefore m n (point_at (b + 1) 0)
block_passed m n b i most before k q other r =
    next_block n b i k q.block.0 q.index (before k q other r)
    (λ a e le. let there : StandsAt m n (point_at b q.index) = stands_at m n (point_at b q.index) other (same_place m other n k (point_at b q.index) q a e refl r) in
    absurd (omega (arith, there.index)))

function_passed : (m : Module) (n b : ℕ) → length (blocks_at m n) ≤ b → NoneBefore m n (point_at b 0) → NoneBefore m (n + 1) (point_at 0 0)
function_passed m n b most before k q other r =
    next_function n b k q.block.0 q.index (before k q other r)
    (λ a le. let there : StandsAt m n q = stands_at m n q other (same_place m other n k q q a refl refl r) in absurd (omega (arith, there.block)))

none_rewritten : (m : Module) (n : ℕ) → length m.functions ≤ n → NoneBefore m n (point_at 0 0) → (k : ℕ) (q : PointId) (other : Module) → Rewrites m k q other → ⊥
none_rewritten m n most before k q other r = at (before k q other r)
  where
    there : StandsAt m k q
    there = stands_at m k q other r

    at : NotAfter (place n 0 0) (text_key k q) → ⊥
    at (inl lt) = absurd (omega (arith, there.function))
    at (inr h) = absurd (let same : n ≡ k = h.0 in omega (arith, there.function))

none_left : (m : Module) (n : ℕ) → length m.functions ≤ n → NoneBefore m n (point_at 0 0) → HasNoRemovable m
none_left m n most before = none_removable m (none_rewritten m n most before)

pub passed_same : (m : Module) (n : ℕ) (p : PointId) → IsVerified m → ArePassed m n p m n p
passed_same m n p verified = record { verified = verified; declarations = refl; shape = same_shape m; none = λ before. before; leads = λ before last h. h }

pub passed_on : (a b c : Module) (i j k : ℕ) (p q r : PointId) → ArePassed a i p b j q → ArePassed b j q c k r → ArePassed a i p c k r
passed_on a b c i j k p q r one other = record {
  verified = other.verified;
  declarations = other.declarations ∙ one.declarations;
  shape = shape_on a b c one.shape other.shape;
  none = λ before. other.none (one.none before);
  leads = λ before last h. one.leads before last (other.leads (one.none before) last h);
}

module _ (keeps : RewritingKeepsVerified) (later : LaterOnesAreLeft) where
  abbrev first_by : (m next : Module) (n : ℕ) (p : PointId) → Rewrites m n p next → NoneBefore m n p → RewritesFirst m next
  first_by m next n p r before = record { function = n; point = p; rewrites = r; first = before }

  rewritten_passed : (m next : Module) (n : ℕ) (p : PointId) → IsVerified m → Rewrites m n p next → NoneBefore m n p → NoneBefore next n (point_at p.block.0 (p.index + 1))
  rewritten_passed m next n p verified r before k q other h =
      behind n p.block.0 p.index k q.block.0 q.index (λ wrong. later m next other verified (first_by m next n p r before) k q h wrong)

  -- the copy at a place is passed
  pub turned_passed : (m next : Module) (n : ℕ) (p : PointId) → IsVerified m → Turned m n p next → ArePassed m n p next n (point_at p.block.0 (p.index + 1))
  turned_passed m _ n p verified (stays none) = record {
    verified = verified;
    declarations = refl;
    shape = same_shape m;
    none = index_passed m n p none;
    leads = λ before last h. h;
  }
  turned_passed m _ n p verified (turns next r) = record {
    verified = (keeps m n p next verified r).verified;
    declarations = rewritten_declares m n p next r;
    shape = rewritten_shape m n p next r;
    none = rewritten_passed m next n p verified r;
    leads = λ before last h. more m next last (first_by m next n p r before) h;
  }

pub block_end : (m new : Module) (n b i : ℕ) (p : PointId) → length (insts_at m n b) ≤ i → ArePassed m n p new n (point_at b i) → ArePassed m n p new n (point_at (b + 1) 0)
block_end m new n b i p most h =
    let fewer : length (insts_at new n b) ≤ i = omega (arith, h.shape.insts n b) in
    record { verified = h.verified; declarations = h.declarations; shape = h.shape; none = λ before. block_passed new n b i fewer (h.none before); leads = h.leads }

pub function_end : (m new : Module) (n b : ℕ) (p : PointId) → length (blocks_at m n) ≤ b → ArePassed m n p new n (point_at b 0) → ArePassed m n p new (n + 1) (point_at 0 0)
function_end m new n b p most h =
    let fewer : length (blocks_at new n) ≤ b = omega (arith, h.shape.blocks n) in
    record { verified = h.verified; declarations = h.declarations; shape = h.shape; none = λ before. function_passed new n b fewer (h.none before); leads = h.leads }

optimised_by : (m new : Module) → ArePassed m 0 (point_at 0 0) new (length m.functions) (point_at 0 0) → IsOptimised m new
optimised_by m new h =
    let all : length new.functions ≤ length m.functions = omega (arith, h.shape.functions) in
    h.leads (none_at_first m) new (done new (none_left new (length m.functions) all (h.none (none_at_first m))))

-- so it is where a copy of the module was passed
pub optimised_copy : (m copy new : Module) → copy ≡ m → ArePassed copy 0 (point_at 0 0) new (length copy.functions) (point_at 0 0) → IsOptimised m new
optimised_copy m copy new same h = subst (λ (x : Module). IsOptimised x new) same (optimised_by copy new h)

-- the table serves the new module too
pub declared_again : (m new : Module) (table : Declarations) → IsVerified new → declarations_of new ≡ declarations_of m → table ≡ declarations_of m → AreDeclarationsOf table new
declared_again m new table verified same copied = record {
  copied = copied ∙ sym same;
  declared = verified.accepted.types.declared.0;
  limits = verified.accepted.types.declared.1;
}
