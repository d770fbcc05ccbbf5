-- What is defined in a scope: the names of the definitions, and the first token whose name stood before.
use Rattle.std.proofs.Common.{◌≡◌, Bool, true, false, List, [], ◌∷◌, ◌++◌, map, refl, sym, ap, subst, ◌∙◌, append_assoc, arith}
use Rattle.std.specs.Prelude.{ℕ, Option, Some, None, if◌then◌else◌, ◌||◌}
use Rattle.std.specs.List.{flat_map, list_any}
use Rattle.std.specs.Map.{keys_of}
use Rattle.std.specs.Str.{bytes_eq}
use Rattle.std.specs.Cmp.Lexicographic.{bytes_decides}
use Rattle.std.proofs.lemmas.List.{append-nil}
use Rattle.std.proofs.lemmas.List.Concat.{flat_map-append}
use Rattle.std.proofs.lemmas.List.Folds.{list_any-append}
use Rattle.indexmap.proofs.SetLemmas.{keys_insert_entry}
use Rattle.indexmap.specs.IndexSet.{insert_key}
use Rattle.sil_grammar_tree.specs.declared.written_tree.fault.Fault.{Fault}
use Rattle.sil_grammar_tree.specs.declared.written_tree.fault.FaultKind.TheVariants.{Twice, UnknownName}
use Rattle.sil_grammar_tree.specs.declared.written_tree.written_declarations.WrittenToken.{WrittenToken}
use Rattle.sil_grammar_tree.specs.declared.written_tree.written_functions.WrittenBlock.{WrittenBlock}
use Rattle.sil_grammar_tree.specs.declared.written_tree.written_instructions.WrittenInst.{WrittenInst}
use Rattle.instruction_table.specs.Forms.{has_one_result}
use Rattle.instruction_table.specs.declared.op.Op.{Op}
use Rattle.sil_grammar_tree.specs.WrittenTree.Faults.{earlier, fault}
use Rattle.sil_grammar_tree.proofs.WrittenTree.FaultOrder.{earlier-assoc, earlier-none}
use Rattle.sil_grammar_names.specs.NameScopes.NameFaults.{twice_after, twice_or_unknown, unknown_in}
use Rattle.sil_grammar_names.specs.NameScopes.Names.{Name, arg_name, label_of, name_of, results_of, values_defined}
use Rattle.sil_grammar_names.specs.NameScopes.inner.Symbols.{Definition, numbered, unnamed, unnumbered, Symbols, definitions_by, definitions_in, definitions_of, labels_in, names_in, numbered_by}
use Rattle.sil_grammar_names.specs.NameScopes.inner.Symbols.{reserved_only, twice_here, unknown_of, unnumbered_after, values_in, with_definition, with_definitions, with_entry, with_next}

-- the same names are found among these as among those
abbrev pub AreSame : List Name → List Name → Type 0
AreSame a b = (name : Name) → list_any (bytes_eq name) a ≡ list_any (bytes_eq name) b

-- a name that is there already may stand there once more
again : (names : List Name) (name other : Name) → list_any (bytes_eq name) names ≡ true → (list_any (bytes_eq other) names || bytes_eq other name) ≡ list_any (bytes_eq other) names
again names name other there = by (bytes_eq other name) refl
  where
    by : (same : Bool) → bytes_eq other name ≡ same → (list_any (bytes_eq other) names || bytes_eq other name) ≡ list_any (bytes_eq other) names
    by true e =
        let found : list_any (bytes_eq other) names ≡ true = subst (λ (n : Name). list_any (bytes_eq n) names ≡ true) (sym ((bytes_decides other name).0 e)) there in
        ap (λ b. b || bytes_eq other name) found ∙ sym found
    by false e = ap (λ b. list_any (bytes_eq other) names || b) e ∙ (grind arith)

pub AreSame-insert : (a b : List Name) (name : Name) → AreSame a b → AreSame (insert_key bytes_eq a name) (b ++ name ∷ [])
AreSame-insert a b name same other = by (list_any (bytes_eq name) a) refl
  where
    after : list_any (bytes_eq other) (b ++ name ∷ []) ≡ (list_any (bytes_eq other) a || bytes_eq other name)
    after = list_any-append (bytes_eq other) b (name ∷ []) ∙ ap (λ x. x || list_any (bytes_eq other) (name ∷ [])) (sym (same other)) ∙ (grind arith)

    by : (there : Bool) → list_any (bytes_eq name) a ≡ there → list_any (bytes_eq other) (insert_key bytes_eq a name) ≡ list_any (bytes_eq other) (b ++ name ∷ [])
    by true e = ap (λ t. list_any (bytes_eq other) (if t then a else a ++ name ∷ [])) e ∙ sym (again a name other e) ∙ sym after
    by false e = ap (λ t. list_any (bytes_eq other) (if t then a else a ++ name ∷ [])) e ∙ list_any-append (bytes_eq other) a (name ∷ []) ∙ (grind arith) ∙ sym after

-- the names of a definition
abbrev pub tokens_by : Definition → List WrittenToken
tokens_by (numbered token) = token ∷ []
tokens_by unnamed = []
tokens_by (unnumbered token) = token ∷ []

AreSame-entry : (t : Symbols) (names : List Name) (name : Name) (number : Option ℕ) → AreSame (names_in t) names → AreSame (keys_of (with_entry t.entries name number)) (names ++ name ∷ [])
AreSame-entry t names name number same other = ap (list_any (bytes_eq other)) (keys_insert_entry bytes_eq t.entries name _) ∙ AreSame-insert (names_in t) names name same other

pub names_after : (t : Symbols) (names : List Name) (ds : List Definition) → AreSame (names_in t) names → AreSame (names_in (with_definitions t ds)) (names ++ map name_of (flat_map tokens_by ds))
names_after t names [] same = λ name. same name ∙ ap (list_any (bytes_eq name)) (sym (append-nil names))
names_after t names (unnamed ∷ ds) same = names_after (with_next t) names ds same
names_after t names (numbered token ∷ ds) same = λ name.
    names_after (with_definition t (numbered token)) (names ++ token.text ∷ []) ds (AreSame-entry t names token.text (Some t.count) same) name
    ∙ ap (list_any (bytes_eq name)) (append_assoc names (token.text ∷ []) (map name_of (flat_map tokens_by ds)))
names_after t names (unnumbered token ∷ ds) same = λ name.
    names_after (with_definition t (unnumbered token)) (names ++ token.text ∷ []) ds (AreSame-entry t names token.text None same) name
    ∙ ap (list_any (bytes_eq name)) (append_assoc names (token.text ∷ []) (map name_of (flat_map tokens_by ds)))

-- one token on
twice_on : (t : Symbols) (names : List Name) (token : WrittenToken) (rest : Option Fault) → AreSame (names_in t) names
    → earlier (earlier t.twice (twice_here (names_in t) token)) rest ≡ earlier t.twice (earlier (twice_here names token) rest)
twice_on t names token rest same =
    earlier-assoc t.twice (twice_here (names_in t) token) rest
    ∙ ap (λ b. earlier t.twice (earlier (if b then Some (fault Twice token.place) else None) rest)) (same token.text)

pub twice_from : (t : Symbols) (names : List Name) (ds : List Definition) → AreSame (names_in t) names → (with_definitions t ds).twice ≡ earlier t.twice (twice_after names (flat_map tokens_by ds))
twice_from t names [] same = sym (earlier-none t.twice)
twice_from t names (unnamed ∷ ds) same = twice_from (with_next t) names ds same
twice_from t names (numbered token ∷ ds) same =
    twice_from (with_definition t (numbered token)) (names ++ token.text ∷ []) ds (AreSame-entry t names token.text (Some t.count) same)
    ∙ twice_on t names token (twice_after (names ++ token.text ∷ []) (flat_map tokens_by ds)) same
twice_from t names (unnumbered token ∷ ds) same =
    twice_from (with_definition t (unnumbered token)) (names ++ token.text ∷ []) ds (AreSame-entry t names token.text None same)
    ∙ twice_on t names token (twice_after (names ++ token.text ∷ []) (flat_map tokens_by ds)) same

reserved_names : (names : List Name) → names_in (reserved_only names) ≡ names
reserved_names [] = refl
reserved_names (name ∷ names) = ap (λ l. name ∷ l) (reserved_names names)

twice_of : (names : List Name) (ds : List Definition) (tokens : List WrittenToken) → flat_map tokens_by ds ≡ tokens → (with_definitions (reserved_only names) ds).twice ≡ twice_after names tokens
unfolding earlier
twice_of names ds tokens is = twice_from (reserved_only names) names ds (λ name. ap (list_any (bytes_eq name)) (reserved_names names)) ∙ ap (twice_after names) is

unknown_same : (a b : List Name) (used : List WrittenToken) → AreSame a b → unknown_of a used ≡ unknown_of b used
unknown_same a b [] same = refl
unknown_same a b (t ∷ ts) same =
    ap (λ found. earlier (if found then None else Some (fault UnknownName t.place)) (unknown_of a ts)) (same t.text)
    ∙ ap (earlier (unknown_in b t)) (unknown_same a b ts same)

unknown_after : (ds : List Definition) (tokens used : List WrittenToken) → flat_map tokens_by ds ≡ tokens
    → unknown_of (names_in (with_definitions (reserved_only []) ds)) used ≡ unknown_of (map name_of tokens) used
unknown_after ds tokens used is = unknown_same _ _ used (names_after (reserved_only []) [] ds (λ name. refl)) ∙ ap (λ l. unknown_of (map name_of l) used) is

numbered_tokens : (tokens : List WrittenToken) → flat_map tokens_by (map numbered tokens) ≡ tokens
numbered_tokens [] = refl
numbered_tokens (t ∷ ts) = ap (λ l. t ∷ l) (numbered_tokens ts)

unnumbered_tokens : (tokens : List WrittenToken) → flat_map tokens_by (map unnumbered tokens) ≡ tokens
unnumbered_tokens [] = refl
unnumbered_tokens (t ∷ ts) = ap (λ l. t ∷ l) (unnumbered_tokens ts)

tokens_of_results : (o : Op) (results : List WrittenToken) → flat_map tokens_by (definitions_of o results) ≡ results
tokens_of_results o [] = by (has_one_result o)
  where
    by : (one : Bool) → flat_map tokens_by (if one then unnamed ∷ [] else []) ≡ []
    by true = refl
    by false = refl
tokens_of_results o (t ∷ ts) = numbered_tokens (t ∷ ts)

tokens_of_insts : (insts : List WrittenInst) → flat_map tokens_by (flat_map definitions_by insts) ≡ flat_map results_of insts
tokens_of_insts [] = refl
tokens_of_insts (i ∷ insts) =
    flat_map-append tokens_by (definitions_by i) (flat_map definitions_by insts)
    ∙ ap (λ l. l ++ flat_map tokens_by (flat_map definitions_by insts)) (tokens_of_results i.op i.results)
    ∙ ap (λ l. i.results ++ l) (tokens_of_insts insts)

tokens_of_code : (insts : List WrittenInst) (terminator : WrittenInst)
    → flat_map tokens_by (flat_map definitions_by insts ++ map unnumbered terminator.results) ≡ flat_map results_of (insts ++ terminator ∷ [])
tokens_of_code insts terminator =
    flat_map-append tokens_by (flat_map definitions_by insts) (map unnumbered terminator.results)
    ∙ ap (λ l. l ++ flat_map tokens_by (map unnumbered terminator.results)) (tokens_of_insts insts)
    ∙ ap (λ l. flat_map results_of insts ++ l) (unnumbered_tokens terminator.results ∙ sym (append-nil terminator.results))
    ∙ sym (flat_map-append results_of insts (terminator ∷ []))

tokens_of_block : (b : WrittenBlock) → flat_map tokens_by (definitions_in b) ≡ values_defined b
tokens_of_block b =
    flat_map-append tokens_by (map numbered (map arg_name b.args)) (flat_map definitions_by b.insts ++ map unnumbered b.terminator.results)
    ∙ ap (λ l. l ++ flat_map tokens_by (flat_map definitions_by b.insts ++ map unnumbered b.terminator.results)) (numbered_tokens (map arg_name b.args))
    ∙ ap (λ l. map arg_name b.args ++ l) (tokens_of_code b.insts b.terminator)

tokens_of_blocks : (blocks : List WrittenBlock) → flat_map tokens_by (flat_map definitions_in blocks) ≡ flat_map values_defined blocks
tokens_of_blocks [] = refl
tokens_of_blocks (b ∷ blocks) =
    flat_map-append tokens_by (definitions_in b) (flat_map definitions_in blocks)
    ∙ ap (λ l. l ++ flat_map tokens_by (flat_map definitions_in blocks)) (tokens_of_block b)
    ∙ ap (λ l. values_defined b ++ l) (tokens_of_blocks blocks)

pub twice_of_unnumbered : (names : List Name) (tokens : List WrittenToken) → (unnumbered_after names tokens).twice ≡ twice_after names tokens
twice_of_unnumbered names tokens = twice_of names (map unnumbered tokens) tokens (unnumbered_tokens tokens)

pub twice_of_unreserved : (tokens : List WrittenToken) → (unnumbered_after [] tokens).twice ≡ twice_after [] tokens
twice_of_unreserved tokens = twice_of_unnumbered [] tokens

pub twice_of_numbered : (tokens : List WrittenToken) → (numbered_by tokens).twice ≡ twice_after [] tokens
twice_of_numbered tokens = twice_of [] (map numbered tokens) tokens (numbered_tokens tokens)

pub unknown_of_numbered : (tokens used : List WrittenToken) → unknown_of (names_in (numbered_by tokens)) used ≡ unknown_of (map name_of tokens) used
unknown_of_numbered tokens used = unknown_after (map numbered tokens) tokens used (numbered_tokens tokens)

pub fault_of_labels : (blocks : List WrittenBlock) (used : List WrittenToken)
    → earlier (labels_in blocks).twice (unknown_of (names_in (labels_in blocks)) used) ≡ twice_or_unknown (map label_of blocks) used
fault_of_labels blocks used = rw (twice_of_numbered (map label_of blocks), unknown_of_numbered (map label_of blocks) used) refl

pub fault_of_values : (blocks : List WrittenBlock) (used : List WrittenToken)
    → earlier (values_in blocks).twice (unknown_of (names_in (values_in blocks)) used) ≡ twice_or_unknown (flat_map values_defined blocks) used
fault_of_values blocks used =
    rw (
      twice_of [] (flat_map definitions_in blocks) (flat_map values_defined blocks) (tokens_of_blocks blocks),
      unknown_after (flat_map definitions_in blocks) (flat_map values_defined blocks) used (tokens_of_blocks blocks),
    ) refl
