-- A printed type reads as itself.
use Rattle.std.proofs.Common.{◌≡◌, ℕ, zero, suc, ◌+◌, ◌≤◌, List, [], ◌∷◌, ◌++◌, length, map, Some, Bool, true, false, not, ◌&&◌, ◌==◌}
use Rattle.std.proofs.Common.{nat_le, codes, if◌then◌else◌, IsTrue, IsFalse, refl, ap, sym, subst, ◌∙◌, arith, true≢false}
use Rattle.std.specs.List.{list_all}
use Rattle.std.proofs.lemmas.List.{append-nil, length-map}
use Rattle.std.proofs.lemmas.Bool.Decides.{nat_tests}
use Rattle.std.proofs.lemmas.Bool.{and_parts}
use Rattle.sil_ast.specs.TypeName.{depth_of, depth_over, largest}
use Rattle.sil_ast.specs.declared.type_name.TypeName.{TypeName, TypeName-F, fold-roll-TypeName, map-TypeName, out-TypeName, roll-TypeName, roll-out-TypeName}
use Rattle.sil_ast.specs.declared.type_name.TypeName.TheVariants.{Address, Tuple, rolls-Int, rolls-Named, rolls-Optional, rolls-Tuple, rolls-Weak, rolls-Unowned, rolls-Address}
use Rattle.sil_printer.proofs.Joined.{join_by_map}
use Rattle.sil_printer.proofs.TypeTexts.{type_text-Address, type_text-Tuple}
use Rattle.sil_printer.specs.CanonicalDecls.{payload_text}
use Rattle.sil_printer.specs.CanonicalTypes.{is_several, opens_parens, several_over, type_over, type_text}
use Rattle.sil_printer.specs.Words.{in_parens}
use Rattle.sil_grammar_tables.specs.declared.grammar.Nonterminal.TheVariants as n
use Rattle.sil_grammar_tables.specs.declared.grammar.Production.TheVariants as p
use Rattle.sil_grammar_tables.specs.declared.grammar.Symbol.TheVariants.{Part}
use Rattle.sil_grammar_tables.specs.Grammar.{body, written}
use Rattle.sil_grammar_classes.specs.Spelling.{punctuation_of, punctuation_spelling, signs}
use Rattle.sil_grammar_values.specs.inner.Meaning.{meaning}
use Rattle.sil_grammar_values.specs.inner.PartFaults.{part_fault}
use Rattle.sil_grammar_values.specs.Opened.{PartValue}
use Rattle.sil_grammar_values.specs.Values.{payload_of, starred, type_of}
use Rattle.numbered_form.specs.Lists.{Each}
use Rattle.numbered_form.specs.inner.Types.{IsPlacedType, IsPlainType, is_placed_at, is_plain_type, is_tuple, is_written, same}
use Rattle.sil_printer_laws.proofs.Pieces.{Ends, Reads, Reads as reads, ReadsAs, Stands}
use Rattle.sil_printer_laws.proofs.Tokens.{punctuation_token}
use Rattle.sil_printer_laws.proofs.TypeForms.{IsTypeOf, bare_type, int_reads, named_reads, optional_reads, unowned_reads, weak_reads}
use Rattle.sil_printer_laws.proofs.TypeLists.{single_payload, tuple_payload, tuple_reads}
use Rattle.sil_printer_laws.proofs.Written.{IsTypeWritten}
use Rattle.sil_grammar.proofs.NumberedReadingLaws.ListsAndFaults.{not_true}

-- the form in which a type is printed
data Form (text : List ℕ) (t : TypeName) (depth : ℕ) (written : List ℕ) : Type 0 where
  open_form : ReadsAs text (Part n.OpenType) (IsTypeOf t depth) written → Form text t depth written
  parens_form : IsTrue (opens_parens written) → ReadsAs text (Part n.Type) (IsTypeOf t depth) written → Form text t depth written

as_type : (text : List ℕ) (t : TypeName) (depth : ℕ) (written : List ℕ) → Form text t depth written → ReadsAs text (Part n.Type) (IsTypeOf t depth) written
as_type text t depth written (open_form r) after ends = bare_type text t depth (r after ends)
as_type text t depth written (parens_form opens r) after ends = r after ends

as_open_type : (text : List ℕ) (t : TypeName) (depth : ℕ) (written : List ℕ) → Form text t depth written → IsFalse (opens_parens written)
    → ReadsAs text (Part n.OpenType) (IsTypeOf t depth) written
as_open_type text t depth written (open_form r) closed = r
as_open_type text t depth written (parens_form opens r) closed = absurd (true≢false (sym opens ∙ closed))

few : (count : ℕ) → nat_le count 64 ≡ true → count ≤ 64
few count h = grind (arith, nat_tests)

-- the tests of a tuple, one by one
record IsTuple (ts : List TypeName) : Type 0 where
  several : (length ts == 1) ≡ false
  few_enough : length ts ≤ 64
  plain : list_all same (map is_plain_type ts) ≡ true

tuple_tests : (ts : List TypeName) → is_tuple (map is_plain_type ts) ≡ true → IsTuple ts
tuple_tests ts h =
    let count : length (map is_plain_type ts) ≡ length ts = length-map ts is_plain_type in
    let sizes = (and_parts (not (length (map is_plain_type ts) == 1) && nat_le (length (map is_plain_type ts)) 64) (list_all same (map is_plain_type ts)) h).0 in
    record {
      several = ap (λ count. count == 1) (sym count) ∙ not_true _ (and_parts (not (length (map is_plain_type ts) == 1)) (nat_le (length (map is_plain_type ts)) 64) sizes).0;
      few_enough = few (length ts) (ap (λ count. nat_le count 64) (sym count) ∙ (and_parts (not (length (map is_plain_type ts) == 1)) (nat_le (length (map is_plain_type ts)) 64) sizes).1);
      plain = (and_parts (not (length (map is_plain_type ts) == 1) && nat_le (length (map is_plain_type ts)) 64) (list_all same (map is_plain_type ts)) h).1;
    }

module _ (text : List ℕ) (most : ℕ) (limited : most ≤ 32)
    (inside : (t : TypeName) → is_plain_type t ≡ true → 1 + depth_of t ≤ most → ReadsAs text (Part n.Type) (IsTypeOf t (depth_of t)) (type_text t)) where
  each_inside : (ts : List TypeName) → list_all same (map is_plain_type ts) ≡ true → 1 + largest (map depth_of ts) ≤ most
      → Each (λ t. ReadsAs text (Part n.Type) (IsTypeOf t (depth_of t)) (type_text t)) ts
  each_inside [] plain deep = tt
  each_inside (t ∷ ts) plain deep = (
    inside t (and_parts (is_plain_type t) (list_all same (map is_plain_type ts)) plain).0 (omega arith),
    each_inside ts (and_parts (is_plain_type t) (list_all same (map is_plain_type ts)) plain).1 (omega arith),
  )

  tuple_form : (ts : List TypeName) → IsTuple ts → 1 + largest (map depth_of ts) ≤ most
      → Form text (roll-TypeName (TypeName-F.Tuple ts)) (1 + largest (map depth_of ts)) (in_parens (λ text. text) (map type_text ts))
  tuple_form ts tests deep =
      rw (rolls-Tuple ts, join_by_map (λ text. text) type_text (codes ", ") ts)
      (parens_form refl (tuple_reads text ts (each_inside ts tests.plain deep) tests.several tests.few_enough (omega arith)))

  -- a level over types that read
  level_form : (layer : TypeName-F TypeName) → is_written (map-TypeName TypeName Bool is_plain_type layer) ≡ true
      → depth_over (map-TypeName TypeName ℕ depth_of layer) ≤ most
      → Form text (roll-TypeName layer) (depth_over (map-TypeName TypeName ℕ depth_of layer)) (type_over (map-TypeName TypeName (List ℕ) type_text layer))
  level_form (TypeName-F.Int width) plain deep = rw (rolls-Int width) (open_form (int_reads text width plain))
  level_form (TypeName-F.Named name) plain deep = rw (rolls-Named name) (open_form (named_reads text name plain))
  level_form (TypeName-F.Optional t) plain deep =
      rw (rolls-Optional t) (open_form (optional_reads text t (depth_of t) (type_text t) (inside t plain (omega arith)) (omega arith)))
  level_form (TypeName-F.Tuple ts) plain deep = tuple_form ts (tuple_tests ts plain) (omega arith)
  level_form (TypeName-F.Weak t) plain deep =
      rw (rolls-Weak t) (open_form (weak_reads text t (depth_of t) (type_text t) (inside t plain (omega arith)) (omega arith)))
  level_form (TypeName-F.Unowned t) plain deep =
      rw (rolls-Unowned t) (open_form (unowned_reads text t (depth_of t) (type_text t) (inside t plain (omega arith)) (omega arith)))
  level_form (TypeName-F.Address t) plain deep = absurd (true≢false (sym plain))

  rolled_form : (layer : TypeName-F TypeName) → is_plain_type (roll-TypeName layer) ≡ true → depth_of (roll-TypeName layer) ≤ most
      → Form text (roll-TypeName layer) (depth_of (roll-TypeName layer)) (type_text (roll-TypeName layer))
  rolled_form layer plain deep =
      rw (fold-roll-TypeName ℕ depth_over layer, fold-roll-TypeName (List ℕ) type_over layer)
      (level_form layer (sym (fold-roll-TypeName Bool is_written layer) ∙ plain) (omega (arith, fold-roll-TypeName ℕ depth_over layer)))

  form_over : (t : TypeName) → is_plain_type t ≡ true → depth_of t ≤ most → Form text t (depth_of t) (type_text t)
  form_over t plain deep =
      subst (λ t. is_plain_type t ≡ true → depth_of t ≤ most → Form text t (depth_of t) (type_text t)) (roll-out-TypeName t) (rolled_form (out-TypeName t)) plain deep

-- by how deep the type is
form_within : (text : List ℕ) (most : ℕ) → most ≤ 32 → (t : TypeName) → is_plain_type t ≡ true → depth_of t ≤ most → Form text t (depth_of t) (type_text t)
form_within text zero limited = form_over text zero limited (λ t plain deep. absurd (omega arith))
form_within text (suc most) limited =
    form_over text (suc most) limited (λ t plain deep. as_type text t (depth_of t) (type_text t) (form_within text most (omega arith) t plain (omega arith)))

form_of : (text : List ℕ) (t : TypeName) → IsPlainType t → Form text t (depth_of t) (type_text t)
form_of text t plain = form_within text 32 (omega arith) t plain.written plain.depth

-- the part stands for the type
abbrev pub IsTypeValue : TypeName → PartValue → Type 0
IsTypeValue t x = IsTypeWritten t (type_of x)

pub type_reads : (text : List ℕ) (t : TypeName) (after : List ℕ) → IsPlainType t → Ends after
    → Stands text n.Type (IsTypeValue t) (type_text t ++ after) after
type_reads text t after plain ends =
    let r = as_type text t (depth_of t) (type_text t) (form_of text t plain) after ends in
    record { value = r.value; stands = record { ty = r.stands.0; depth = r.stands.1 }; reads = r.reads }

-- a type that doesn't begin with a parenthesis
pub open_type_reads : (text : List ℕ) (t : TypeName) (after : List ℕ) → IsPlainType t → IsFalse (opens_parens (type_text t)) → Ends after
    → Stands text n.OpenType (IsTypeValue t) (type_text t ++ after) after
open_type_reads text t after plain closed ends =
    let r = as_open_type text t (depth_of t) (type_text t) (form_of text t plain) closed after ends in
    record { value = r.value; stands = record { ty = r.stands.0; depth = r.stands.1 }; reads = r.reads }

-- a type where one `*` may stand in front
pub record ReadsPlaced (text : List ℕ) (t : TypeName) (left after : List ℕ) : Type 0 where
  pub star : PartValue
  pub inside : PartValue
  pub stands : starred star (type_of inside).ty ≡ t
  pub reads : Reads text (Part n.Star ∷ Part n.Type ∷ []) left (star ∷ inside ∷ []) after

-- without a `*`
unplaced : (text : List ℕ) (t : TypeName) → IsPlainType t → (after : List ℕ) → Ends after → ReadsPlaced text t (type_text t ++ after) after
unfolding body written part_fault meaning starred
unplaced text t plain after ends =
    let r = type_reads text t after plain ends in
    record { star = _; inside = r.value; stands = r.stands.ty; reads = reads.rule p.StarNone reads.nothing refl r.reads }

placed_address : (text : List ℕ) (t : TypeName) → IsPlainType t → (after : List ℕ) → Ends after → ReadsPlaced text (Address t) (type_text (Address t) ++ after) after
unfolding body written part_fault meaning starred punctuation_of punctuation_spelling signs
placed_address text t plain after ends =
    let r = type_reads text t after plain ends in
    rw (type_text-Address t) (record {
      star = _;
      inside = r.value;
      stands = ap Address r.stands.ty;
      reads = reads.rule p.StarSome (punctuation_token 42 refl refl reads.nothing) refl r.reads;
    })

placed_level : (text : List ℕ) (t : TypeName) (layer : TypeName-F TypeName) → roll-TypeName layer ≡ t → is_placed_at t layer ≡ true → depth_of t ≤ 32
    → (after : List ℕ) → Ends after → ReadsPlaced text t (type_text t ++ after) after
placed_level text t (TypeName-F.Address target) e plain deep after ends =
    let is_address : Address target ≡ t = sym (rolls-Address target) ∙ e in
    let same_depth : depth_of t ≡ depth_of target = ap depth_of (sym e) ∙ fold-roll-TypeName ℕ depth_over (TypeName-F.Address target) in
    subst (λ t. ReadsPlaced text t (type_text t ++ after) after) is_address
    (placed_address text target (record { written = plain; depth = omega arith }) after ends)
placed_level text t _ e plain deep after ends = unplaced text t (record { written = plain; depth = deep }) after ends

pub placed_reads : (text : List ℕ) (t : TypeName) (after : List ℕ) → IsPlacedType t → Ends after
    → ReadsPlaced text t (type_text t ++ after) after
placed_reads text t after placed ends = placed_level text t (out-TypeName t) (roll-out-TypeName t) placed.written placed.depth after ends

-- payloads

reads_inside : (text : List ℕ) (t : TypeName) → is_plain_type t ≡ true → 1 + depth_of t ≤ 32 → ReadsAs text (Part n.Type) (IsTypeOf t (depth_of t)) (type_text t)
reads_inside text t plain deep = as_type text t (depth_of t) (type_text t) (form_of text t (record { written = plain; depth = omega arith }))

several_payload : (text : List ℕ) (t u : TypeName) (ts : List TypeName) → IsPlainType (roll-TypeName (TypeName-F.Tuple (t ∷ u ∷ ts)))
    → (after : List ℕ) → Stands text n.Payload (λ x. payload_of x ≡ Some (Tuple (t ∷ u ∷ ts))) (type_text (Tuple (t ∷ u ∷ ts)) ++ after) after
several_payload text t u ts plain after =
    let all = t ∷ u ∷ ts in
    let deep : 1 + largest (map depth_of all) ≤ 32 = omega (arith, plain.depth, fold-roll-TypeName ℕ depth_over (TypeName-F.Tuple all)) in
    let tests = tuple_tests all (sym (fold-roll-TypeName Bool is_written (TypeName-F.Tuple all)) ∙ plain.written) in
    rw (type_text-Tuple all)
    (tuple_payload text t u ts (each_inside text 32 (omega arith) (reads_inside text) all tests.plain deep) tests.few_enough deep after)

-- the text of a payload of a type that is several types or isn't
abbrev payload_by : Bool → TypeName → List ℕ
payload_by several t = if several then type_text t else codes "(" ++ type_text t ++ codes ")"

payload_level : (text : List ℕ) (layer : TypeName-F TypeName) (several : Bool) → several_over (map-TypeName TypeName Bool is_several layer) ≡ several
    → IsPlainType (roll-TypeName layer) → (after : List ℕ)
    → Stands text n.Payload (λ x. payload_of x ≡ Some (roll-TypeName layer)) (payload_by several (roll-TypeName layer) ++ after) after
payload_level text layer false e plain after =
    let t = roll-TypeName layer in
    rw (append-nil (type_text t)) at (single_payload text t (as_type text t (depth_of t) (type_text t) (form_of text t plain)) after)
payload_level text (TypeName-F.Tuple (t ∷ u ∷ ts)) true e plain after = rw (rolls-Tuple (t ∷ u ∷ ts)) (several_payload text t u ts plain after)
payload_level text _ true e plain after = absurd (true≢false (sym e))

-- the type of a payload, in its parentheses
pub payload_reads : (text : List ℕ) (t : TypeName) (after : List ℕ) → IsPlainType t
    → Stands text n.Payload (λ x. payload_of x ≡ Some t) (payload_text t ++ after) after
payload_reads text t after plain =
    subst (λ t. IsPlainType t → is_several t ≡ is_several t → Stands text n.Payload (λ x. payload_of x ≡ Some t) (payload_text t ++ after) after)
    (roll-out-TypeName t)
    (λ plain e. payload_level text (out-TypeName t) (is_several (roll-TypeName (out-TypeName t))) (sym (fold-roll-TypeName Bool several_over (out-TypeName t))) plain after)
    plain refl
