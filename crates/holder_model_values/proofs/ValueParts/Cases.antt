-- The values of enums: which suit, and their leaves.
use Rattle.std.proofs.Common.{◌≡◌, ◌+◌, ◌-◌, ◌++◌, ℕ, zero, suc, List, ◌∷◌, Option, Some, None, true, refl, sym, ap, ◌∙◌, arith}
use Rattle.std.specs.Prelude.{length, take, drop, replicate, option_and_then, option_map, slice_get}
use Rattle.std.proofs.lemmas.Bool.{false≢true}
use Rattle.std.proofs.lemmas.List.{take_at}
use Rattle.sil_types_declarations.specs.numbered_form.Names.{Name}
use Rattle.holder_model_values.specs.declared.run_values.leaf.Leaf.TheVariants as leaf
use Rattle.holder_model_values.specs.RunValues.inner.Fits.{Test, fits, fits_case, fits_payload, is_case}
use Rattle.holder_model_values.specs.RunValues.Layers.{CaseLayer, Layer}
use Rattle.holder_model_values.specs.RunValues.Leaves.{InLeaves, filled_up, in_leaves, leaves_layer, leaves_of, longest_payload, payload_at, payload_leaves}
use Rattle.holder_model_values.specs.RunValues.Leaves as run_leaves
use Rattle.holder_model_values.specs.RunValues.Shapes.{CaseShapes, NoCase, PlainCase, FullCase, Shape, by_layers, case_shapes, cases_by_layers, listed_cases}
use Rattle.holder_model_values.specs.RunValues.Shapes.{Integer, Reference, Struct, Tuple, Enum, Stored, Unknown}
use Rattle.holder_model_values.specs.RunValues.Values.{Value, Case, Full, case_of}
use Rattle.holder_model_values.specs.ValueParts.inner.Choices.{IsChoice}
use Rattle.holder_model_values.specs.ValueParts.inner.Paths.{leaf_count}
use Rattle.holder_model_values.specs.ValueParts.inner.Suits.{ClassTest, suits, suits_layer}
use Rattle.holder_model_values.proofs.ValueParts.Leaves.{leaves_length}

-- what is told of a case by what is told of its payload
abbrev told_case : {A : Type 0} → (Layer A → A) → CaseLayer Shape → CaseLayer A
told_case tell c = record { name = c.name; payload = option_map (by_layers tell) c.payload }

case_told : {A : Type 0} (tell : Layer A → A) (cs : CaseShapes) (k : ℕ) → slice_get (cases_by_layers tell cs) k ≡ option_map (told_case tell) (slice_get (listed_cases cs) k)
case_told tell NoCase k = refl
case_told tell (PlainCase name others) zero = refl
case_told tell (PlainCase name others) (suc k) = case_told tell others k
case_told tell (FullCase name s others) zero = refl
case_told tell (FullCase name s others) (suc k) = case_told tell others k

-- a shape with a case is an enum
data HasCase (k : ℕ) (c : CaseLayer Shape) : Shape → Type 0 where
  enum : (name : Name) (cs : CaseShapes) → slice_get (listed_cases cs) k ≡ Some c → HasCase k c (Enum name cs)

has_case : (s : Shape) (k : ℕ) (c : CaseLayer Shape) → slice_get (case_shapes s) k ≡ Some c → HasCase k c s
has_case (Integer width) k c e = cc
has_case (Reference class) k c e = cc
has_case (Struct name fields) k c e = cc
has_case (Tuple elements) k c e = cc
has_case (Enum name cs) k c e = enum name cs e
has_case (Stored storage inner) k c e = cc
has_case Unknown k c e = cc

-- which values suit

module _ (test : ClassTest) where
  abbrev tell : Layer Test → Test
  tell = suits_layer test

  told_at : (cs : CaseShapes) (k : ℕ) (c : CaseLayer Shape) → slice_get (listed_cases cs) k ≡ Some c → slice_get (cases_by_layers tell cs) k ≡ Some (told_case tell c)
  told_at cs k c e = case_told tell cs k ∙ ap (option_map (told_case tell)) e

  pub choice_suits : (name : Name) (cs : CaseShapes) (v : Value) → IsChoice test (listed_cases cs) v → suits test (Enum name cs) v ≡ true
  choice_suits name cs _ (IsChoice.plain k c e p) =
      ap (λ o. fits_case o None) (told_at cs k c e) ∙ ap (λ o. fits_payload (option_map (by_layers tell) o) None) p
  choice_suits name cs _ (IsChoice.full k x c s e p good) =
      ap (λ o. fits_case o (Some x)) (told_at cs k c e) ∙ ap (λ o. fits_payload (option_map (by_layers tell) o) (Some x)) p ∙ good

  plain_choice : (cs : List (CaseLayer Shape)) (k : ℕ) (c : CaseLayer Shape) (o : Option Shape) → slice_get cs k ≡ Some c → c.payload ≡ o
      → fits_payload (option_map (by_layers tell) o) None ≡ true → IsChoice test cs (Case k)
  plain_choice cs k c None e p h = IsChoice.plain k c e p
  plain_choice cs k c (Some s) e p h = absurd (false≢true h)

  full_choice : (cs : List (CaseLayer Shape)) (k : ℕ) (x : Value) (c : CaseLayer Shape) (o : Option Shape) → slice_get cs k ≡ Some c → c.payload ≡ o
      → fits_payload (option_map (by_layers tell) o) (Some x) ≡ true → IsChoice test cs (Full k x)
  full_choice cs k x c None e p h = absurd (false≢true h)
  full_choice cs k x c (Some s) e p h = IsChoice.full k x c s e p h

  case_choice : (cs : List (CaseLayer Shape)) (k : ℕ) (o : Option (CaseLayer Shape)) → slice_get cs k ≡ o → fits_case (option_map (told_case tell) o) None ≡ true → IsChoice test cs (Case k)
  case_choice cs k None e h = absurd (false≢true h)
  case_choice cs k (Some c) e h = plain_choice cs k c c.payload e refl h

  payload_choice : (cs : List (CaseLayer Shape)) (k : ℕ) (x : Value) (o : Option (CaseLayer Shape)) → slice_get cs k ≡ o → fits_case (option_map (told_case tell) o) (Some x) ≡ true
      → IsChoice test cs (Full k x)
  payload_choice cs k x None e h = absurd (false≢true h)
  payload_choice cs k x (Some c) e h = full_choice cs k x c c.payload e refl h

  any_choice : (cs : CaseShapes) (v : Value) → is_case (cases_by_layers tell cs) (case_of v) ≡ true → IsChoice test (listed_cases cs) v
  any_choice cs (Case k) h = case_choice (listed_cases cs) k (slice_get (listed_cases cs) k) refl (sym (ap (λ o. fits_case o None) (case_told tell cs k)) ∙ h)
  any_choice cs (Full k x) h = payload_choice (listed_cases cs) k x (slice_get (listed_cases cs) k) refl (sym (ap (λ o. fits_case o (Some x)) (case_told tell cs k)) ∙ h)
  any_choice cs v h = absurd (false≢true h)

  pub suits_choice : (name : Name) (cs : CaseShapes) (v : Value) → suits test (Enum name cs) v ≡ true → IsChoice test (listed_cases cs) v
  suits_choice name cs v h = any_choice cs v h

  plain_suits : (s : Shape) (k : ℕ) (c : CaseLayer Shape) → HasCase k c s → c.payload ≡ None → suits test s (Case k) ≡ true
  plain_suits _ k c (enum name cs e) p = choice_suits name cs (Case k) (IsChoice.plain k c e p)

  pub case_suits : (s : Shape) (k : ℕ) (c : CaseLayer Shape) → slice_get (case_shapes s) k ≡ Some c → c.payload ≡ None → suits test s (Case k) ≡ true
  case_suits s k c e p = plain_suits s k c (has_case s k c e) p

  payload_suits : (s : Shape) (k : ℕ) (c : CaseLayer Shape) (t : Shape) (x : Value) → HasCase k c s → c.payload ≡ Some t → suits test t x ≡ true → suits test s (Full k x) ≡ true
  payload_suits _ k c t x (enum name cs e) p good = choice_suits name cs (Full k x) (IsChoice.full k x c t e p good)

  pub full_suits : (s : Shape) (k : ℕ) (c : CaseLayer Shape) (t : Shape) (x : Value) → slice_get (case_shapes s) k ≡ Some c → c.payload ≡ Some t → suits test t x ≡ true
      → suits test s (Full k x) ≡ true
  full_suits s k c t x e p good = payload_suits s k c t x (has_case s k c e) p good

-- their leaves

abbrev told_leaves : CaseShapes → List (CaseLayer InLeaves)
told_leaves cs = cases_by_layers leaves_layer cs

payload_told : (cs : CaseShapes) (k : ℕ) (c : CaseLayer Shape) (o : Option Shape) → slice_get (listed_cases cs) k ≡ Some c → c.payload ≡ o → payload_at (told_leaves cs) k ≡ option_map in_leaves o
payload_told cs k c o e p =
    ap (option_and_then run_leaves.payload_of) (case_told leaves_layer cs k ∙ ap (option_map (told_case leaves_layer)) e) ∙ ap (option_map in_leaves) p

plain_leaves : (s : Shape) (k : ℕ) (c : CaseLayer Shape) → HasCase k c s → c.payload ≡ None → leaves_of s (Case k) ≡ leaf.Tag k ∷ replicate (leaf_count s - 1) leaf.Blank
plain_leaves _ k c (enum name cs e) p =
    let longest = longest_payload (told_leaves cs) in
    let blanks : longest - 0 ≡ (1 + longest) - 1 = omega arith in
    ap (λ o. leaf.Tag k ∷ filled_up longest (payload_leaves o None)) (payload_told cs k c None e p) ∙ ap (λ n. leaf.Tag k ∷ replicate n leaf.Blank) blanks

pub case_leaves : (s : Shape) (k : ℕ) (c : CaseLayer Shape) → slice_get (case_shapes s) k ≡ Some c → c.payload ≡ None
    → leaves_of s (Case k) ≡ leaf.Tag k ∷ replicate (leaf_count s - 1) leaf.Blank
case_leaves s k c e p = plain_leaves s k c (has_case s k c e) p

payload_leaves_are : (s : Shape) (k : ℕ) (c : CaseLayer Shape) (t : Shape) (x : Value) → HasCase k c s → c.payload ≡ Some t → fits t x ≡ true
    → leaves_of s (Full k x) ≡ leaf.Tag k ∷ (leaves_of t x ++ replicate (leaf_count s - 1 - leaf_count t) leaf.Blank)
payload_leaves_are _ k c t x (enum name cs e) p h =
    let longest = longest_payload (told_leaves cs) in
    let count = leaves_length t x h in
    let blanks : longest - length (leaves_of t x) ≡ (1 + longest) - 1 - leaf_count t = omega (arith, count) in
    ap (λ o. leaf.Tag k ∷ filled_up longest (payload_leaves o (Some x))) (payload_told cs k c (Some t) e p)
    ∙ ap (λ n. leaf.Tag k ∷ (leaves_of t x ++ replicate n leaf.Blank)) blanks

pub full_leaves : (s : Shape) (k : ℕ) (c : CaseLayer Shape) (t : Shape) (x : Value) → slice_get (case_shapes s) k ≡ Some c → c.payload ≡ Some t → fits t x ≡ true
    → leaves_of s (Full k x) ≡ leaf.Tag k ∷ (leaves_of t x ++ replicate (leaf_count s - 1 - leaf_count t) leaf.Blank)
full_leaves s k c t x e p h = payload_leaves_are s k c t x (has_case s k c e) p h

-- the payload's leaves lie behind the tag
pub payload_read : (s : Shape) (k : ℕ) (c : CaseLayer Shape) (t : Shape) (x : Value) → slice_get (case_shapes s) k ≡ Some c → c.payload ≡ Some t → fits t x ≡ true
    → take (leaf_count t) (drop 1 (leaves_of s (Full k x))) ≡ leaves_of t x
payload_read s k c t x e p h =
    ap (λ ls. take (leaf_count t) (drop 1 ls)) (full_leaves s k c t x e p h)
    ∙ take_at (leaves_of t x) (replicate (leaf_count s - 1 - leaf_count t) leaf.Blank) (leaf_count t) (leaves_length t x h)
