-- What is done to operands, one by one.
use Rattle.std.proofs.Common.{◌≡◌, ℕ, zero, suc, ◌+◌, ◌<◌, List, [], ◌∷◌, ◌++◌, length, replicate, get_or, take, refl, sym, ap, ap₂, ◌∙◌, arith, add-one, append-nil, Option, Some, None, map}
use Rattle.std.specs.List.{slice_get}
use Rattle.std.specs.Option.{option_to_list}
use Rattle.std.specs.Prelude.{option_map}
use Rattle.std.proofs.lemmas.Option.{slice_get-map}
use Rattle.instruction_table.specs.declared.entries.Role.{Role}
use Rattle.sil_ast.specs.declared.operands.Operand.{Operand}
use Rattle.sil_ast.specs.declared.signature.Signature.{Signature}
use Rattle.argument_conventions.specs.Arguments.{Told, arguments_of}
use Rattle.argument_conventions.specs.declared.convention.ArgumentConvention.{ArgumentConvention}
use Rattle.sil_cfg_items.specs.Roles.{by_convention, by_row, conventions_by, last_roles, roles_for, taken_as, taken_each}
use Rattle.sil_cfg_items.specs.declared.taken.Treatment.{Treatment}

-- in front of the last role of a row each is that of one operand
pub lead_role : (row : List Role) (cs : List ArgumentConvention) (n i : ℕ) (d : Role) → i + 1 < length row → i < n → slice_get (roles_for row cs n) i ≡ Some (by_row (get_or row i d))
lead_role [] cs n i d lt below = absurd (omega arith)
lead_role (x ∷ []) cs n i d lt below = absurd (omega arith)
lead_role (x ∷ y ∷ row) cs zero i d lt below = absurd (omega arith)
lead_role (x ∷ y ∷ row) cs (suc n) zero d lt below = refl
lead_role (x ∷ y ∷ row) cs (suc n) (suc i) d lt below = lead_role (y ∷ row) cs n i d (omega arith) (omega arith)

-- behind it each is as the last role says
pub later_role : (row : List Role) (cs : List ArgumentConvention) (n k i m j : ℕ) (d : Role) → k + 1 ≡ length row → m + k ≡ n → j + k ≡ i → i < n →
    slice_get (roles_for row cs n) i ≡ slice_get (last_roles (get_or row k d) cs m) j
later_role [] cs n k i m j d size total index below = absurd (omega arith)
later_role (x ∷ []) cs n zero i m j d size total index below = let same : n ≡ m = omega arith in let here : i ≡ j = omega arith in ap₂ (λ a b. slice_get (last_roles x cs a) b) same here
later_role (x ∷ []) cs n (suc k) i m j d size total index below = absurd (omega arith)
later_role (x ∷ y ∷ row) cs n zero i m j d size total index below = absurd (omega arith)
later_role (x ∷ y ∷ row) cs zero (suc k) i m j d size total index below = absurd (omega arith)
later_role (x ∷ y ∷ row) cs (suc n) (suc k) zero m j d size total index below = absurd (omega arith)
later_role (x ∷ y ∷ row) cs (suc n) (suc k) (suc i) m j d size total index below = later_role (y ∷ row) cs n k i m j d (omega arith) (omega arith) (omega arith) (omega arith)

next_operand : (os : List Operand) (rs : List Treatment) (i : ℕ) (o : Operand) → i < length os → o ≡ get_or os i o →
    taken_each (take (suc i) os) rs ≡ taken_each (take i os) rs ++ map (taken_as o) (option_to_list (slice_get rs i))
next_operand [] rs i o lt e = absurd (omega arith)
next_operand (x ∷ os) [] zero o lt e = refl
next_operand (x ∷ os) (r ∷ rs) zero o lt e = by os rs
  where
    by : (os : List Operand) (rs : List Treatment) → taken_as x r ∷ taken_each (take 0 os) rs ≡ taken_as o r ∷ []
    by [] rs = ap (λ v. taken_as v r ∷ []) (sym e)
    by (z ∷ os) rs = ap (λ v. taken_as v r ∷ []) (sym e)
next_operand (x ∷ os) [] (suc i) o lt e = refl
next_operand (x ∷ os) (r ∷ rs) (suc i) o lt e = ap (λ v. taken_as x r ∷ v) (next_operand os rs i o (omega arith) e)

-- one more operand
pub taken_each_more : (os : List Operand) (rs : List Treatment) (i : ℕ) (o : Operand) → i < length os → o ≡ get_or os i o →
    taken_each (take (i + 1) os) rs ≡ taken_each (take i os) rs ++ map (taken_as o) (option_to_list (slice_get rs i))
taken_each_more os rs i o lt e = ap (λ n. taken_each (take n os) rs) (add-one i) ∙ next_operand os rs i o lt e

-- where the same is done to all
pub taken_alike : (os : List Operand) (r : Treatment) → map (λ o. taken_as o r) os ≡ taken_each os (replicate (length os) r)
taken_alike [] r = refl
taken_alike (o ∷ os) r = ap (λ v. taken_as o r ∷ v) (taken_alike os r)

-- what is done to an argument goes by its convention
pub told_treatment : (s : Signature) (k : ℕ) (o : Option Told) → o ≡ slice_get (arguments_of s) k →
    option_map (λ a. by_convention a.convention) o ≡ slice_get (map by_convention (conventions_by (Some s))) k
told_treatment s k o e =
    ap (option_map (λ a. by_convention a.convention)) e ∙ sym (ap (option_map by_convention) (slice_get-map (λ a. a.convention) (arguments_of s) k) ∙ mapped (slice_get (arguments_of s) k))
    ∙ sym (slice_get-map by_convention (map (λ a. a.convention) (arguments_of s)) k) ∙ ap (λ cs. slice_get (map by_convention cs) k) (sym (append-nil (map (λ a. a.convention) (arguments_of s))))
  where
    mapped : (o : Option Told) → option_map by_convention (option_map (λ a. a.convention) o) ≡ option_map (λ a. by_convention a.convention) o
    mapped None = refl
    mapped (Some a) = refl
