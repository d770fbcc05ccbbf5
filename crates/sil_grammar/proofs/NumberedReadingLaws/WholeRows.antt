-- A row writes a good instruction: what holds before a part holds behind it, down to the last part.
use Rattle.std.proofs.Common.{◌≡◌, ℕ, ◌+◌, ◌≤◌, List, [], ◌∷◌, ◌++◌, length, map, Option, Some, None, Bool, true, false, if◌then◌else◌, ◌||◌, not}
use Rattle.std.proofs.Common.{is_some, IfSome, IsTrue, ap, refl, sym, subst, ◌∙◌, arith, append-nil, leb-true, length-append}
use Rattle.std.specs.List.{list_any}
use Rattle.std.specs.Option.{option_map}
use Rattle.std.proofs.lemmas.List.{length-map}
use Rattle.std.proofs.lemmas.Bool.{and_parts}
use Rattle.std.proofs.Math.Bool.{or-false}
use Rattle.instruction_table.specs.Forms.{detail_of, is_terminator, parts_of, words_of}
use Rattle.instruction_table.specs.declared.entries.Words.{Words}
use Rattle.instruction_table.specs.declared.entries.Words.TheVariants as words
use Rattle.instruction_table.specs.declared.forms.Part.{Part}
use Rattle.instruction_table.specs.declared.op.Op.{Op}
use Rattle.sil_ast.specs.declared.inst.Qualifier.TheVariants as qualifier
use Rattle.sil_grammar_tables.specs.Rows.{comma_behind, ends_block, parts_row, row_body, row_part, symbols_of}
use Rattle.sil_grammar_tables.specs.declared.grammar.Nonterminal.TheVariants as n
use Rattle.sil_grammar_tables.specs.declared.grammar.Symbol.{Symbol}
use Rattle.sil_grammar_tree.specs.WrittenTree.Faults.{earlier}
use Rattle.sil_grammar_tree.specs.declared.written_tree.fault.Fault.{Fault}
use Rattle.sil_grammar_tree.specs.declared.written_tree.written_declarations.WrittenToken.{WrittenToken}
use Rattle.sil_grammar_tree.specs.declared.written_tree.written_instructions.WrittenInst.{WrittenInst}
use Rattle.sil_grammar_tree.proofs.WrittenTree.FaultOrder.{no_first, no_second}
use Rattle.sil_grammar_values.specs.Opened.{PartValue}
use Rattle.sil_grammar_values.specs.inner.PartFaults.{fault_of_part, parts_fault, row_fault}
use Rattle.sil_grammar_values.specs.inner.RowMeaning.{begun, behind_part, row, with_part, with_parts}
use Rattle.sil_grammar_values.specs.Values.{inst_of}
use Rattle.sil_grammar_names.specs.NameResolution.Resolved.{function_of, resolved_edge, resolved_operand}
use Rattle.numbered_form.specs.inner.Limits.{IsEdgeInLimits, IsSignatureInLimits}
use Rattle.numbered_form.specs.inner.Literals.{is_number_of, is_text_of}
use Rattle.numbered_form.specs.Names.{IsEdgeSpelled, IsMemberSpelled, is_quotable}
use Rattle.numbered_form.specs.inner.Parts.{has_operands, is_among, is_callee, is_debug, is_flags, is_member, is_number, is_signature, is_silent, is_text, is_type, may_have, row_has}
use Rattle.numbered_form.specs.inner.Types.{HasEdgeTypes, HasSignatureTypes, IsPlainType}
use Rattle.sil_grammar.proofs.NumberedReadingLaws.ListsAndFaults.{Each-weaker, either_first, either_second}
use Rattle.sil_grammar.proofs.NumberedReadingLaws.FaultlessParts.{AreGoodFrom, IsGoodAnywhere, IsGoodDebug, IsGoodEdge, IsGoodPart, IsGoodSignature, nothing_shown}
use Rattle.sil_grammar.proofs.NumberedReadingLaws.OperandLemmas.{AreOperandsBefore, operands_kept}
use Rattle.sil_grammar.proofs.NumberedReadingLaws.RowFields.{HasField, HasItsEdges, IsNumberFor, IsOfRow, IsTextFor, debug_kept, edges_kept, flags_kept, function_kept}
use Rattle.sil_grammar.proofs.NumberedReadingLaws.RowFields.{member_kept, number_kept, qualifier_kept, same_op, same_results, signature_kept, text_kept, type_kept}
use Rattle.sil_grammar.proofs.NumberedReadingLaws.ResultLemmas.{results_few, results_there}
use Rattle.sil_grammar.proofs.NumberedReadingLaws.RowRules.{edges_stand, few_operand_parts, is_edges, may_all_stand, may_stand, operand_parts, parts_stand}

-- an instruction of a row of which these parts are still to come
pub record IsGoodSoFar (o : Op) (ps : List Part) (i : WrittenInst) : Type 0 where
  pub of_row : (test : Part → Bool) → list_any test ps ≡ true → row_has test o ≡ true
  pub op : i.op ≡ o
  pub no_results : i.results ≡ []
  pub ty : HasField is_type o (list_any is_type ps) IsPlainType i.ty
  pub signature : HasField is_signature o (list_any is_signature ps) IsGoodSignature i.signature
  pub function : (is_some i.function || list_any is_callee ps) ≡ row_has is_callee o
  pub member : HasField is_member o (list_any is_member ps) IsMemberSpelled i.member
  pub text : HasField is_text o (list_any is_text ps) (IsTextFor (detail_of o)) i.text
  pub number : HasField is_number o (list_any is_number ps) (IsNumberFor (detail_of o) i.ty (list_any is_type ps)) i.number
  pub qualifier : IsTrue (may_have o i.qualifier.word)
  pub flags : IsTrue (row_has is_flags o || not (i.lexical || i.var_decl))
  pub debug : IsTrue (row_has is_debug o || is_silent i.debug) × IsGoodDebug i.debug
  pub operands : AreOperandsBefore o ps i.operands
  pub edges : HasItsEdges o (list_any is_edges ps) i.edges

-- one part more
one_more_part : (o : Op) (here : Part) (others : List Part) (at : ℕ) (parts : List PartValue) (i : WrittenInst) → may_stand o here others ≡ true → AreGoodFrom at (symbols_of o here) parts
    → fault_of_part o here at parts i ≡ None → IsGoodSoFar o (here ∷ others) i → IsGoodSoFar o others (with_part o here at parts i)
one_more_part o here others at parts i stands good h g =
    let own : IsOfRow o here = (λ test e. g.of_row test (either_first (test here) (list_any test others) e)) in
    record {
      of_row = λ test e. g.of_row test (either_second (test here) (list_any test others) e);
      op = same_op o others at parts i here ∙ g.op;
      no_results = same_results o others at parts i here ∙ g.no_results;
      ty = type_kept o others at parts i here own good g.ty;
      signature = signature_kept o others at parts i here own good g.signature;
      function = function_kept o others at parts i here own g.function;
      member = member_kept o others at parts i here own good g.member;
      text = text_kept o others at parts i here own good g.text;
      number = number_kept o others at parts i here stands own g.ty.fine h g.number;
      qualifier = qualifier_kept o others at parts i here stands good g.qualifier;
      flags = flags_kept o others at parts i here own g.flags;
      debug = debug_kept o others at parts i here own good g.debug;
      operands = operands_kept o here others at parts i stands good h g.operands;
      edges = edges_kept o others at parts i here good g.edges;
    }

-- the parts in front, and those behind them

front_parts : (at : ℕ) (front ss : List Symbol) (parts : List PartValue) → AreGoodFrom at (front ++ ss) parts → AreGoodFrom at front parts
front_parts at [] ss parts g = tt
front_parts at (s ∷ front) ss parts g = (g.0, front_parts (at + 1) front ss parts g.1)

parts_behind : (at : ℕ) (front ss : List Symbol) (parts : List PartValue) → AreGoodFrom at (front ++ ss) parts → AreGoodFrom (at + length front) ss parts
parts_behind at [] ss parts g = let e : at ≡ at + 0 = omega arith in subst (λ (k : ℕ). AreGoodFrom k ss parts) e g
parts_behind at (s ∷ front) ss parts g =
    let e : (at + 1) + length front ≡ at + length (s ∷ front) = omega arith in
    subst (λ (k : ℕ). AreGoodFrom k ss parts) e (parts_behind (at + 1) front ss parts g.1)

here_good : (o : Op) (here : Part) (others : List Part) (at : ℕ) (parts : List PartValue) → AreGoodFrom at (parts_row o (here ∷ others)) parts → AreGoodFrom at (symbols_of o here) parts
unfolding parts_row
here_good o here others at parts g =
    front_parts at (symbols_of o here) (comma_behind o here others) parts (front_parts at (symbols_of o here ++ comma_behind o here others) (parts_row o others) parts g)

others_behind : (o : Op) (here : Part) (others : List Part) (at : ℕ) (parts : List PartValue)
    → AreGoodFrom at (parts_row o (here ∷ others)) parts → AreGoodFrom (behind_part o here others at) (parts_row o others) parts
unfolding parts_row
others_behind o here others at parts g =
    subst (λ (k : ℕ). AreGoodFrom k (parts_row o others) parts) (ap (λ n. at + n) (length-append (symbols_of o here) (comma_behind o here others)))
    (parts_behind at (symbols_of o here ++ comma_behind o here others) (parts_row o others) parts g)

-- where a row has no fault, nothing was found before its last parts
none_found : (o : Op) (ps : List Part) (at : ℕ) (parts : List PartValue) (i : WrittenInst) (found : Option Fault) → parts_fault o ps at parts i found ≡ None → found ≡ None
none_found o [] at parts i found h = h
none_found o (here ∷ others) at parts i found h =
    no_first found (fault_of_part o here at parts i) (none_found o others (behind_part o here others at) parts (with_part o here at parts i) (earlier found (fault_of_part o here at parts i)) h)

no_fault_here : (o : Op) (here : Part) (others : List Part) (at : ℕ) (parts : List PartValue) (i : WrittenInst) (found : Option Fault)
    → parts_fault o (here ∷ others) at parts i found ≡ None → fault_of_part o here at parts i ≡ None
no_fault_here o here others at parts i found h =
    no_second found (fault_of_part o here at parts i) (none_found o others (behind_part o here others at) parts (with_part o here at parts i) (earlier found (fault_of_part o here at parts i)) h)

all_parts : (o : Op) (ps : List Part) (at : ℕ) (parts : List PartValue) (i : WrittenInst) (found : Option Fault) → may_all_stand o ps ≡ true → AreGoodFrom at (parts_row o ps) parts
    → parts_fault o ps at parts i found ≡ None → IsGoodSoFar o ps i → IsGoodSoFar o [] (with_parts o ps at parts i)
all_parts o [] at parts i found stand good h g = g
all_parts o (here ∷ others) at parts i found stand good h g =
    all_parts o others (behind_part o here others at) parts (with_part o here at parts i) (earlier found (fault_of_part o here at parts i))
    (and_parts (may_stand o here others) (may_all_stand o others) stand).1
    (others_behind o here others at parts good)
    h
    (one_more_part o here others at parts i (and_parts (may_stand o here others) (may_all_stand o others) stand).0
    (here_good o here others at parts good) (no_fault_here o here others at parts i found h) g)

-- before the first part

no_word_among : (w : Words) → is_among w qualifier.Plain ≡ true
no_word_among words.NoWord = refl
no_word_among _ = refl

nothing_written : (o : Op) (parts : List PartValue) → IsGoodSoFar o (parts_of o) (begun o parts)
nothing_written o parts = record {
  of_row = λ test e. e;
  op = refl;
  no_results = refl;
  ty = record { there = refl; fine = tt };
  signature = record { there = refl; fine = tt };
  function = refl;
  member = record { there = refl; fine = tt };
  text = record { there = refl; fine = tt };
  number = record { there = refl; fine = tt };
  qualifier = no_word_among (words_of o);
  flags = either_second (row_has is_flags o) true refl;
  debug = (either_second (row_has is_debug o) true refl, nothing_shown);
  operands = record { whole = λ s more e. e; types = λ s. tt; few = (let few : operand_parts (parts_of o) ≤ 64 = leb-true (operand_parts (parts_of o)) 64 (few_operand_parts o) in omega arith) };
  edges = record { there = λ s. edges_stand o; good = λ s. tt };
}

-- behind the last part

is_some-map : {A B : Type 0} (f : A → B) (x : Option A) → is_some (option_map f x) ≡ is_some x
is_some-map f None = refl
is_some-map f (Some x) = refl

put_if : {A : Type 0} (test : Part → Bool) (o : Op) (IsFine : A → Type 0) (x : Option A) → HasField test o false IsFine x → is_some x ≡ row_has test o
put_if test o IsFine x g = sym (or-false (is_some x)) ∙ g.there

each_is : {A : Type 0} (P Q : A → Type 0) → ((x : A) → P x → Q x) → (x : Option A) → IfSome x P → IfSome x Q
each_is P Q h None g = tt
each_is P Q h (Some x) g = h x g

no_tokens_few : (tokens : List WrittenToken) → tokens ≡ [] → length tokens ≤ 64
no_tokens_few tokens e = rw e (omega arith)

good_inst : (w : WrittenInst) → IsGoodSoFar w.op [] w → IsGoodAnywhere w
good_inst w g s first = record {
  parts = record {
    ty = put_if is_type w.op IsPlainType w.ty g.ty;
    signature = put_if is_signature w.op IsGoodSignature w.signature g.signature;
    function = is_some-map (function_of s) w.function ∙ sym (or-false (is_some w.function)) ∙ g.function;
    member = put_if is_member w.op IsMemberSpelled w.member g.member;
    number = put_if is_number w.op _ w.number g.number;
    text = put_if is_text w.op _ w.text g.text;
    qualifier = g.qualifier;
    flags = g.flags;
    debug = g.debug.0;
    operands = subst (λ os. has_operands w.op os ≡ true) (append-nil (map (resolved_operand s) w.operands)) (g.operands.whole s [] refl);
    edges = g.edges.there s;
    results = results_there w.op first w.results;
  };
  literals = record {
    number = each_is _ (λ n. IsTrue (is_number_of w.op w.ty n)) (λ n h. h.in_range) w.number g.number.fine;
    text = each_is _ (λ text. IsTrue (is_text_of w.op text)) (λ text h. h.known) w.text g.text.fine;
    argno = g.debug.1.1;
  };
  spelled = record {
    member = g.member.fine;
    text = each_is _ (λ text. IsTrue (is_quotable text)) (λ text h. h.quotable) w.text g.text.fine;
    debug = g.debug.1.0;
    edges = Each-weaker IsGoodEdge IsEdgeSpelled (λ e h. h.spelled) (map (resolved_edge s) w.edges) (g.edges.good s);
  };
  types = record {
    ty = g.ty.fine;
    signature = each_is IsGoodSignature HasSignatureTypes (λ signature h. h.types) w.signature g.signature.fine;
    operands = g.operands.types s;
    edges = Each-weaker IsGoodEdge HasEdgeTypes (λ e h. h.types) (map (resolved_edge s) w.edges) (g.edges.good s);
  };
  limits = record {
    operands = rw length-map (omega (arith, g.operands.few));
    results = results_few w.op first w.results (no_tokens_few w.results g.no_results);
    signature = each_is IsGoodSignature IsSignatureInLimits (λ signature h. h.limits) w.signature g.signature.fine;
    edges = Each-weaker IsGoodEdge IsEdgeInLimits (λ e h. h.limits) (map (resolved_edge s) w.edges) (g.edges.good s);
  };
}

-- the part of the grammar that a row writes

by_ending : (ending : Bool) (x : PartValue) → is_terminator (inst_of x).op ≡ ending → (inst_of x).results ≡ [] → IsGoodAnywhere (inst_of x) → IsGoodPart (if ending then n.Terminator else n.Row) x
unfolding IsGoodPart
by_ending true x e none good = record { ends = e; no_results = none; good = good }
by_ending false x e none good = record { goes_on = e; no_results = none; good = good }

-- the part of the grammar that stands for a row's instruction is good
pub good_row : (o : Op) (parts : List PartValue) (x : PartValue) → inst_of x ≡ row o parts → AreGoodFrom 0 (row_body o) parts → row_fault o parts ≡ None → IsGoodPart (row_part o) x
unfolding row_body row_part ends_block
good_row o parts x is good h =
    let g : IsGoodSoFar o [] (row o parts) = all_parts o (parts_of o) 1 parts (begun o parts) None (parts_stand o) good.1 h (nothing_written o parts) in
    let k : IsGoodSoFar o [] (inst_of x) = subst (IsGoodSoFar o []) (sym is) g in
    by_ending (is_terminator o) x (ap is_terminator k.op) k.no_results (good_inst (inst_of x) (subst (λ (o : Op). IsGoodSoFar o [] (inst_of x)) (sym k.op) k))
