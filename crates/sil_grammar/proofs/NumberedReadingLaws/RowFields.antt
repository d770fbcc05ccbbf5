-- What a row puts into the fields of its instruction, part by part: the parts that are still to come put the rest.
use Rattle.std.proofs.Common.{◌≡◌, ℕ, ◌+◌, List, ◌∷◌, map, Option, Some, None, Bool, true, false, ◌||◌, not, is_some, IfSome, IsTrue, ap, refl, sym, subst, ◌∙◌, arith, true≢false}
use Rattle.std.specs.List.{list_any}
use Rattle.std.specs.Prelude.{ℤ}
use Rattle.instruction_table.specs.Forms.{detail_of, ending_of, words_of}
use Rattle.instruction_table.specs.declared.entries.Detail.{Detail}
use Rattle.instruction_table.specs.declared.entries.Detail.TheVariants as detail
use Rattle.instruction_table.specs.declared.entries.Ending.{Ending}
use Rattle.instruction_table.specs.declared.entries.Ending.TheVariants as ending
use Rattle.instruction_table.specs.declared.entries.Words.{Words}
use Rattle.instruction_table.specs.declared.entries.Words.TheVariants as words
use Rattle.instruction_table.specs.declared.forms.Part.{Part}
use Rattle.instruction_table.specs.declared.forms.Part.TheVariants as part
use Rattle.instruction_table.specs.declared.op.Op.{Op}
use Rattle.sil_ast.specs.declared.place.Place.{Place}
use Rattle.sil_ast.specs.declared.type_name.TypeName.{TypeName}
use Rattle.sil_grammar_tables.specs.Rows.{edges_by, member_by, symbols_of, text_by, word_by}
use Rattle.sil_grammar_tables.specs.Rows as rows
use Rattle.sil_grammar_tables.specs.declared.grammar.Nonterminal.{Nonterminal}
use Rattle.sil_grammar_tables.specs.declared.grammar.Nonterminal.TheVariants as n
use Rattle.sil_grammar_tree.specs.WrittenTree.Faults.{out_of_range}
use Rattle.sil_grammar_tree.specs.declared.written_tree.written_instructions.WrittenEdge.{WrittenEdge}
use Rattle.sil_grammar_tree.specs.declared.written_tree.written_instructions.WrittenInst.{WrittenInst}
use Rattle.sil_grammar_values.specs.Opened.{PartValue}
use Rattle.sil_grammar_values.specs.inner.PartFaults.{fault_of_part}
use Rattle.sil_grammar_values.specs.inner.Parts.{part, place_at, text_at}
use Rattle.sil_grammar_values.specs.inner.RowMeaning.{edges_at, number_by, with_part}
use Rattle.sil_grammar_values.specs.Values.{edge_of, member_of, qualifier_of, type_of}
use Rattle.sil_grammar_names.specs.NameResolution.Resolved.{Scope, resolved_edge}
use Rattle.numbered_form.specs.Lists.{Each}
use Rattle.numbered_form.specs.inner.Literals.{is_number_by, is_text_by}
use Rattle.numbered_form.specs.Names.{IsMemberSpelled, is_quotable}
use Rattle.numbered_form.specs.inner.Parts.{are_edges_by, has_edges, is_among, is_callee, is_debug, is_flags, is_member, is_number, is_signature, is_silent, is_text, is_type, may_have, row_has}
use Rattle.numbered_form.specs.inner.Types.{IsPlainType}
use Rattle.sil_grammar.proofs.NumberedReadingLaws.ListsAndFaults.{both, either_first, either_second, not_true}
use Rattle.sil_grammar.proofs.NumberedReadingLaws.FaultlessParts.{AreGoodFrom, IsGoodBranch, IsGoodDebug, IsGoodEdge, IsGoodPart, IsGoodSignature, IsGoodToken}
use Rattle.sil_grammar.proofs.NumberedReadingLaws.NumberLemmas.{IsGoodElement, IsGoodLiteral, good_element, good_literal}
use Rattle.sil_grammar.proofs.NumberedReadingLaws.RowRules.{is_edges, may_stand, takes_words}
use Rattle.sil_grammar.proofs.NumberedReadingLaws.TypeLemmas.{plain_type}

-- the part is one of the row's
abbrev pub IsOfRow : Op → Part → Type 0
IsOfRow o here = (test : Part → Bool) → test here ≡ true → row_has test o ≡ true

-- a field that parts with the test put: it will be there just where the row has such a part, and what it has is fine
pub record HasField {A : Type 0} (test : Part → Bool) (o : Op) (coming : Bool) (IsFine : A → Type 0) (x : Option A) : Type 0 where
  pub there : (is_some x || coming) ≡ row_has test o
  pub fine : IfSome x IsFine

put : {A : Type 0} (test : Part → Bool) (o : Op) (coming : Bool) (IsFine : A → Type 0) (x : A) → row_has test o ≡ true → IsFine x → HasField test o coming IsFine (Some x)
put test o coming IsFine x e fine = record { there = sym e; fine = fine }

-- the third part from here
third : (kind : Nonterminal) (at : ℕ) (parts : List PartValue) → IsGoodPart kind (part ((at + 1) + 1) parts) → IsGoodPart kind (part (at + 2) parts)
third kind at parts g = let e : (at + 1) + 1 ≡ at + 2 = omega arith in subst (λ (k : ℕ). IsGoodPart kind (part k parts)) e g

-- numbers: behind one stands no type

pub record IsNumberFor (d : Detail) (t : Option TypeName) (typed : Bool) (number : ℤ) : Type 0 where
  pub in_range : IsTrue (is_number_by d t number)
  pub last : typed ≡ false

record IsRead (d : Detail) (t : Option TypeName) (typed : Bool) (number : Option ℤ) : Type 0 where
  there : is_some number ≡ true
  fine : IfSome number (IsNumberFor d t typed)

with_last : (d : Detail) (t : Option TypeName) (typed : Bool) (number : Option ℤ) → typed ≡ false → is_some number ≡ true → IfSome number (λ n. IsTrue (is_number_by d t n)) → IsRead d t typed number
with_last d t typed None last there fine = absurd (true≢false (sym there))
with_last d t typed (Some n) last there fine = record { there = refl; fine = record { in_range = fine; last = last } }

read_number : (d : Detail) (t : Option TypeName) (typed : Bool) (spelling : List ℕ) (place : Place) → typed ≡ false
    → IfSome t IsPlainType → out_of_range (number_by d t spelling) place ≡ None → IsRead d t typed (number_by d t spelling)
read_number detail.Literal (Some t) typed spelling place last plain e =
    let l : IsGoodLiteral t _ = good_literal t spelling place plain.written e in
    with_last detail.Literal (Some t) typed _ last l.there l.residue
read_number detail.Literal None typed spelling place last plain e = absurd (cc)
read_number detail.Element t typed spelling place last plain e =
    let l : IsGoodElement _ = good_element spelling place e in
    with_last detail.Element t typed _ last l.there l.small
read_number _ t typed spelling place last plain e = absurd (cc)

put_number : (o : Op) (coming typed : Bool) (t : Option TypeName) (number : Option ℤ) → row_has is_number o ≡ true
    → IsRead (detail_of o) t typed number → HasField is_number o coming (IsNumberFor (detail_of o) t typed) number
put_number o coming typed t number e r = record { there = ap (λ b. b || coming) r.there ∙ sym e; fine = r.fine }

no_number : (d : Detail) (t new : Option TypeName) (typed : Bool) (number : Option ℤ) → IfSome number (IsNumberFor d t true) → IfSome number (IsNumberFor d new typed)
no_number d t new typed None g = tt
no_number d t new typed (Some n) g = absurd (true≢false g.last)

-- members, texts and words in brackets, as the columns of the row allow them

spelled_member : (d : Detail) (x : PartValue) → IsGoodPart (member_by d) x → IsMemberSpelled (member_of x)
unfolding IsGoodPart
spelled_member detail.Case x g = g
spelled_member _ x g = g

pub record IsTextFor (d : Detail) (text : List ℕ) : Type 0 where
  pub known : IsTrue (is_text_by d text)
  pub quotable : IsTrue (is_quotable text)

text_for : (d : Detail) (text : List ℕ) → IsGoodToken (text_by d) text → IsTextFor d text
unfolding IsGoodToken
text_for detail.Operation text g = record { known = g.known; quotable = g.quotable }
text_for _ text g = record { known = refl; quotable = g }

word_among : (w : Words) (x : PartValue) → takes_words w ≡ true → IsGoodPart (word_by w) x → IsTrue (is_among w (qualifier_of x).word)
unfolding IsGoodPart
word_among words.NoWord x takes g = absurd (true≢false (sym takes))
word_among words.AnyWord x takes g = refl
word_among words.TakeWord x takes g = g
word_among words.InitWord x takes g = g

-- edges, as the ending of the row allows them

pub record AreEdgesOf (e : Ending) (es : List WrittenEdge) : Type 0 where
  pub ending : (s : Scope) → are_edges_by e (map (resolved_edge s) es) ≡ true
  pub good : (s : Scope) → Each IsGoodEdge (map (resolved_edge s) es)

written_edges : (e : Ending) (at : ℕ) (parts : List PartValue) → AreGoodFrom at (edges_by e) parts → AreEdgesOf e (edges_at e at parts)
unfolding IsGoodPart
written_edges ending.OneBranch at parts g = record { ending = λ s. both _ true (g.0.branch s) refl; good = λ s. (g.0.good s, tt) }
written_edges ending.TwoBranches at parts g =
    let second : IsGoodBranch (edge_of (part (at + 2) parts)) = third n.Edge at parts g.1.1.0 in
    record { ending = λ s. both _ _ (g.0.branch s) (both _ true (second.branch s) refl); good = λ s. (g.0.good s, (second.good s, tt)) }
written_edges ending.Cases at parts g = record { ending = λ s. both _ _ (ap not (g.0.some s)) (g.0.good.cases s); good = g.0.good.good }
written_edges _ at parts g = record { ending = λ s. refl; good = λ s. tt }

-- the edges, where none are coming
pub record HasItsEdges (o : Op) (coming : Bool) (es : List WrittenEdge) : Type 0 where
  pub there : (s : Scope) → (coming || has_edges o (map (resolved_edge s) es)) ≡ true
  pub good : (s : Scope) → Each IsGoodEdge (map (resolved_edge s) es)

-- one part more, and what that means to each field
module _ (o : Op) (others : List Part) (at : ℕ) (parts : List PartValue) (i : WrittenInst) where
  pub type_kept : (here : Part) → IsOfRow o here → AreGoodFrom at (symbols_of o here) parts
      → HasField is_type o (list_any is_type (here ∷ others)) IsPlainType i.ty → HasField is_type o (list_any is_type others) IsPlainType (with_part o here at parts i).ty
  unfolding symbols_of IsGoodPart
  type_kept part.TypeWord own good g = put is_type o (list_any is_type others) IsPlainType (type_of (part (at + 1) parts)).ty (own is_type refl) (plain_type (type_of (part (at + 1) parts)) good.1.0)
  type_kept part.ResultType own good g = put is_type o (list_any is_type others) IsPlainType (type_of (part (at + 2) parts)).ty
      (own is_type refl) (plain_type (type_of (part (at + 2) parts)) (third n.Type at parts good.1.1.0))
  type_kept _ own good g = g

  pub signature_kept : (here : Part) → IsOfRow o here → AreGoodFrom at (symbols_of o here) parts
      → HasField is_signature o (list_any is_signature (here ∷ others)) IsGoodSignature i.signature
      → HasField is_signature o (list_any is_signature others) IsGoodSignature (with_part o here at parts i).signature
  unfolding symbols_of IsGoodPart
  signature_kept part.SignatureWord own good g = put is_signature o (list_any is_signature others) IsGoodSignature _ (own is_signature refl) (third n.FunctionType at parts good.1.1.0)
  signature_kept _ own good g = g

  pub function_kept : (here : Part) → IsOfRow o here
      → (is_some i.function || list_any is_callee (here ∷ others)) ≡ row_has is_callee o → (is_some (with_part o here at parts i).function || list_any is_callee others) ≡ row_has is_callee o
  function_kept part.Callee own g = sym (own is_callee refl)
  function_kept _ own g = g

  pub member_kept : (here : Part) → IsOfRow o here → AreGoodFrom at (symbols_of o here) parts
      → HasField is_member o (list_any is_member (here ∷ others)) IsMemberSpelled i.member → HasField is_member o (list_any is_member others) IsMemberSpelled (with_part o here at parts i).member
  unfolding symbols_of rows.member_of
  member_kept part.Member own good g = put is_member o (list_any is_member others) IsMemberSpelled
      (member_of (part at parts)) (own is_member refl) (spelled_member (detail_of o) (part at parts) good.0)
  member_kept _ own good g = g

  pub text_kept : (here : Part) → IsOfRow o here → AreGoodFrom at (symbols_of o here) parts
      → HasField is_text o (list_any is_text (here ∷ others)) (IsTextFor (detail_of o)) i.text
      → HasField is_text o (list_any is_text others) (IsTextFor (detail_of o)) (with_part o here at parts i).text
  unfolding symbols_of rows.text_of
  text_kept part.Text own good g = put is_text o (list_any is_text others) (IsTextFor (detail_of o)) (text_at at parts) (own is_text refl) (text_for (detail_of o) (text_at at parts) good.0)
  text_kept _ own good g = g

  pub number_kept : (here : Part) → may_stand o here others ≡ true → IsOfRow o here → IfSome i.ty IsPlainType → fault_of_part o here at parts i ≡ None
      → HasField is_number o (list_any is_number (here ∷ others)) (IsNumberFor (detail_of o) i.ty (list_any is_type (here ∷ others))) i.number
      → HasField is_number o (list_any is_number others) (IsNumberFor (detail_of o) (with_part o here at parts i).ty (list_any is_type others)) (with_part o here at parts i).number
  number_kept part.Number stands own plain h g =
      put_number o (list_any is_number others) (list_any is_type others) i.ty _ (own is_number refl)
      (read_number (detail_of o) i.ty (list_any is_type others) (text_at at parts) (place_at at parts) (not_true (list_any is_type others) stands) plain h)
  number_kept part.TypeWord stands own plain h g = record { there = g.there; fine = no_number (detail_of o) i.ty _ (list_any is_type others) i.number g.fine }
  number_kept part.ResultType stands own plain h g = record { there = g.there; fine = no_number (detail_of o) i.ty _ (list_any is_type others) i.number g.fine }
  number_kept _ stands own plain h g = g

  pub qualifier_kept : (here : Part) → may_stand o here others ≡ true → AreGoodFrom at (symbols_of o here) parts
      → IsTrue (may_have o i.qualifier.word) → IsTrue (may_have o (with_part o here at parts i).qualifier.word)
  unfolding symbols_of rows.qualifier_of
  qualifier_kept part.Qualifier stands good g = word_among (words_of o) (part at parts) stands good.0
  qualifier_kept _ stands good g = g

  pub flags_kept : (here : Part) → IsOfRow o here
      → IsTrue (row_has is_flags o || not (i.lexical || i.var_decl)) → IsTrue (row_has is_flags o || not ((with_part o here at parts i).lexical || (with_part o here at parts i).var_decl))
  flags_kept part.Flags own g = either_first _ _ (own is_flags refl)
  flags_kept _ own g = g

  pub debug_kept : (here : Part) → IsOfRow o here → AreGoodFrom at (symbols_of o here) parts
      → IsTrue (row_has is_debug o || is_silent i.debug) × IsGoodDebug i.debug
      → IsTrue (row_has is_debug o || is_silent (with_part o here at parts i).debug) × IsGoodDebug (with_part o here at parts i).debug
  unfolding symbols_of IsGoodPart
  debug_kept part.Debug own good g = (either_first _ _ (own is_debug refl), good.0)
  debug_kept _ own good g = g

  pub edges_kept : (here : Part) → AreGoodFrom at (symbols_of o here) parts → HasItsEdges o (list_any is_edges (here ∷ others)) i.edges
      → HasItsEdges o (list_any is_edges others) (with_part o here at parts i).edges
  unfolding symbols_of rows.edges_of
  edges_kept part.Edges good g =
      let w : AreEdgesOf (ending_of o) (edges_at (ending_of o) at parts) = written_edges (ending_of o) at parts good in
      record { there = λ s. either_second (list_any is_edges others) _ (w.ending s); good = w.good }
  edges_kept _ good g = g

  -- no part changes these

  pub same_op : (here : Part) → (with_part o here at parts i).op ≡ i.op
  same_op part.Flags = refl
  same_op _ = refl

  pub same_results : (here : Part) → (with_part o here at parts i).results ≡ i.results
  same_results part.Flags = refl
  same_results _ = refl
