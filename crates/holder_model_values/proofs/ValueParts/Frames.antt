-- What lies before and behind a part, among the leaves or cells of a value, is the same whatever value is put there.
use Rattle.std.proofs.Common.{◌≡◌, ◌+◌, ◌++◌, ℕ, zero, suc, List, [], ◌∷◌, Some, true, length, take, map, sum, refl, sym, ap, ◌∙◌, append_assoc, arith}
use Rattle.std.specs.Prelude.{set, slice_get, unwrap_or}
use Rattle.std.proofs.lemmas.Bool.{and_parts, false≢true}
use Rattle.std.proofs.lemmas.List.{append-nil, length-append}
use Rattle.std.proofs.lemmas.List.Sums.{sum_by-cons}
use Rattle.std.proofs.lemmas.Option.{none-some, same_Some}
use Rattle.holder_model_values.specs.RunValues.inner.Fits.{fit_each}
use Rattle.holder_model_values.specs.RunValues.Shapes.{Shape, Unknown, member_shapes}
use Rattle.holder_model_values.specs.RunValues.Values.{Value}
use Rattle.holder_model_values.specs.ValueParts.inner.Paths.{IsPart, here, inside, all_members, before_along, with_member_at, with_part_at}
use Rattle.holder_model_values.specs.ValueParts.inner.Suits.{ClassTest, suits}
use Rattle.holder_model_values.proofs.ValueParts.Members.{all_members_with, has_member, members_suit}
use Rattle.holder_model_values.proofs.ValueParts.Parts.{with_inside}

module _ {A : Type 0} (row : Shape → Value → List A) where
  -- those of values side by side
  abbrev pub rows : List Shape → List Value → List A
  rows [] vs = []
  rows (s ∷ ss) [] = []
  rows (s ∷ ss) (v ∷ vs) = row s v ++ rows ss vs

  pub record Frame (first : ℕ) (u : Shape) (whole : Value → List A) : Type 0 where
    pub before : List A
    pub behind : List A
    pub count : length before ≡ first
    pub splits : (x : Value) → whole x ≡ before ++ (row u x ++ behind)

module _ {A : Type 0} (row : Shape → Value → List A) (width : Shape → ℕ) (test : ClassTest)
    (count : (s : Shape) (v : Value) → suits test s v ≡ true → length (row s v) ≡ width s)
    (laid : (s t : Shape) (k : ℕ) (v : Value) → slice_get (member_shapes s) k ≡ Some t → row s v ≡ rows row (member_shapes s) (all_members v)) where
  abbrev first_of : List Shape → ℕ → ℕ
  first_of ss k = sum (map width (take k ss))

  member_frame : (ss : List Shape) (vs : List Value) (k : ℕ) (t : Shape) → fit_each (map (suits test) ss) vs ≡ true → slice_get ss k ≡ Some t
      → Frame row (first_of ss k) t (λ x. rows row ss (set vs k x))
  member_frame [] vs k t h e = absurd (none-some t e)
  member_frame (s ∷ ss) [] k t h e = absurd (false≢true h)
  member_frame (s ∷ ss) (v ∷ vs) zero t h e = record { before = []; behind = rows row ss vs; count = refl; splits = λ x. ap (λ u. row u x ++ rows row ss vs) (same_Some s t e) }
  member_frame (s ∷ ss) (v ∷ vs) (suc k) t h e =
      let parts = and_parts (suits test s v) (fit_each (map (suits test) ss) vs) h in
      let others = member_frame ss vs k t parts.1 e in
      let mine = count s v parts.0 in
      let all : first_of (s ∷ ss) (suc k) ≡ width s + first_of ss k = sum_by-cons (λ n. n) (width s) (map width (take k ss)) in
      record {
        before = row s v ++ others.before;
        behind = others.behind;
        count = length-append (row s v) others.before ∙ omega (arith, mine, others.count, all);
        splits = λ x. ap (λ ls. row s v ++ ls) (others.splits x) ∙ sym (append_assoc (row s v) others.before (row t x ++ others.behind));
      }

  regroup : (a b m c d : List A) → a ++ ((b ++ (m ++ c)) ++ d) ≡ (a ++ b) ++ (m ++ (c ++ d))
  regroup a b m c d = simp append_assoc

  pub part_frame : {s u : Shape} {path : List ℕ} → IsPart s path u → (v : Value) → suits test s v ≡ true
      → Frame row (before_along first_of s path) u (λ x. row s (with_part_at v path x))
  part_frame {s = s} here v h = record { before = []; behind = []; count = refl; splits = λ x. sym (append-nil (row s x)) }
  part_frame (inside {s = s} {t = t} {u = u} {k = k} {path = path} e part) v h =
      let member = has_member test s t k v e h in
      let inner = part_frame part member.0 member.2 in
      let outer = member_frame (member_shapes s) (all_members v) k t (members_suit test s t k v e h) e in
      let along : before_along first_of s (k ∷ path) ≡ first_of (member_shapes s) k + before_along first_of t path =
      ap (λ o. first_of (member_shapes s) k + before_along first_of (unwrap_or o Unknown) path) e in
      record {
        before = outer.before ++ inner.before;
        behind = inner.behind ++ outer.behind;
        count = length-append outer.before inner.before ∙ omega (arith, outer.count, inner.count, along);
        splits = λ x. let y = with_part_at member.0 path x in
            ap (row s) (with_inside v member.0 k path x member.1)
            ∙ laid s t k (with_member_at v k y) e
            ∙ ap (rows row (member_shapes s)) (all_members_with v k y)
            ∙ outer.splits y
            ∙ ap (λ ls. outer.before ++ (ls ++ outer.behind)) (inner.splits x)
            ∙ regroup outer.before inner.before (row u x) inner.behind outer.behind;
      }
