-- A look-up finds the place at which a name is defined first.
use Rattle.std.proofs.Common.{◌≡◌, ℕ, ◌+◌, Bool, true, false, List, [], ◌∷◌, ◌++◌, map, refl, sym, ap, subst, ◌∙◌, true≢false}
use Rattle.std.specs.Prelude.{Option, Some, None, if◌then◌else◌, cond, position, unwrap_or}
use Rattle.std.specs.List.{flat_map, position_from}
use Rattle.std.specs.Map.{lookup}
use Rattle.std.specs.Option.{option_or}
use Rattle.std.specs.Str.{bytes_eq}
use Rattle.std.specs.Cmp.Lexicographic.{bytes_decides}
use Rattle.std.proofs.lemmas.Iterator.Adapters.{position_from-zero}
use Rattle.std.proofs.lemmas.List.{append-nil}
use Rattle.std.proofs.lemmas.List.Concat.{flat_map-append}
use Rattle.indexmap.specs.IndexMap.{insert_entry}
use Rattle.instruction_table.specs.Forms.{has_one_result}
use Rattle.instruction_table.specs.declared.op.Op.{Op}
use Rattle.sil_grammar_tree.specs.declared.written_tree.written_declarations.WrittenToken.{WrittenToken}
use Rattle.sil_grammar_tree.specs.declared.written_tree.written_functions.WrittenArg.{WrittenArg}
use Rattle.sil_grammar_tree.specs.declared.written_tree.written_functions.WrittenBlock.{WrittenBlock}
use Rattle.sil_grammar_tree.specs.declared.written_tree.written_instructions.WrittenInst.{WrittenInst}
use Rattle.sil_grammar_names.specs.NameScopes.Names.{Name, arg_name, name_of}
use Rattle.sil_grammar_names.specs.NameResolution.Resolved.{defined_by, defined_by_arg, defined_by_inst, defined_in, has_name}
use Rattle.sil_grammar_names.specs.NameScopes.inner.Symbols.{Definition, numbered, unnamed, unnumbered, Symbols, definitions_by, definitions_in, definitions_of}
use Rattle.sil_grammar_names.specs.NameScopes.inner.Symbols.{number_among, numbered_by, reserved_only, values_in, with_definition, with_definitions, with_entry}
use Rattle.sil_grammar_names.specs.NameResolution.inner.Tables.{FindsNames, FindsValues}

-- what a look-up finds once a name has a value
lookup_inserted : {X : Type 0} (entries : List (Name × X)) (name other : Name) (x : X)
    → lookup (bytes_eq other) (insert_entry bytes_eq entries name x) ≡ cond (bytes_eq other name) (Some x) (lookup (bytes_eq other) entries)
lookup_inserted [] name other x = refl
lookup_inserted {X} (e ∷ es) name other x = by (bytes_eq name e.0) refl (lookup_inserted es name other x)
  where
    rest : Option X
    rest = lookup (bytes_eq other) es

    same : (b : Bool) → cond b (Some x) rest ≡ cond b (Some x) (cond b (Some e.1) rest)
    same true = refl
    same false = refl

    apart : (a b : Bool) → bytes_eq other e.0 ≡ a → bytes_eq other name ≡ b → bytes_eq name e.0 ≡ false → cond a (Some e.1) (cond b (Some x) rest) ≡ cond b (Some x) (cond a (Some e.1) rest)
    apart false b p q h = refl
    apart true false p q h = refl
    apart true true p q h = absurd (true≢false (sym (subst (λ (n : Name). bytes_eq n e.0 ≡ true) ((bytes_decides other name).0 q) p) ∙ h))

    by : (b : Bool) → bytes_eq name e.0 ≡ b → lookup (bytes_eq other) (insert_entry bytes_eq es name x) ≡ cond (bytes_eq other name) (Some x) rest
        → lookup (bytes_eq other) (insert_entry bytes_eq (e ∷ es) name x) ≡ cond (bytes_eq other name) (Some x) (lookup (bytes_eq other) (e ∷ es))
    by true h later =
        ap (λ b. lookup (bytes_eq other) (if b then (e.0, x) ∷ es else e ∷ insert_entry bytes_eq es name x)) h
        ∙ same (bytes_eq other e.0)
        ∙ ap (λ n. cond (bytes_eq other n) (Some x) (cond (bytes_eq other e.0) (Some e.1) rest)) (sym ((bytes_decides name e.0).0 h))
    by false h later =
        ap (λ b. lookup (bytes_eq other) (if b then (e.0, x) ∷ es else e ∷ insert_entry bytes_eq es name x)) h
        ∙ ap (cond (bytes_eq other e.0) (Some e.1)) later
        ∙ apart (bytes_eq other e.0) (bytes_eq other name) refl refl h

option_or_none : (found : Option ℕ) → found ≡ option_or found None
option_or_none None = refl
option_or_none (Some x) = refl

-- the number of a name once a name is defined
number_after : (entries : List (Name × Option ℕ)) (name other : Name) (number : Option ℕ)
    → number_among (with_entry entries name number) other ≡ option_or (number_among entries other) (cond (bytes_eq other name) number None)
number_after entries name other number =
    ap (λ o. unwrap_or o None) (lookup_inserted entries name other found)
    ∙ by (bytes_eq other name) refl
  where
    found : Option ℕ
    found = option_or (number_among entries name) number

    by : (same : Bool) → bytes_eq other name ≡ same → unwrap_or (cond same (Some found) (lookup (bytes_eq other) entries)) None ≡ option_or (number_among entries other) (cond same number None)
    by true e = ap (λ n. option_or (number_among entries n) number) (sym ((bytes_decides other name).0 e))
    by false e = option_or_none (number_among entries other)

option_or_cond : (found : Option ℕ) (b : Bool) (number : ℕ) (rest : Option ℕ) → option_or (option_or found (cond b (Some number) None)) rest ≡ option_or found (cond b (Some number) rest)
option_or_cond None true number rest = refl
option_or_cond None false number rest = refl
option_or_cond (Some x) b number rest = refl

option_or_neither : (found : Option ℕ) (b : Bool) (rest : Option ℕ) → option_or (option_or found (cond b None None)) rest ≡ option_or found rest
option_or_neither None true rest = refl
option_or_neither None false rest = refl
option_or_neither (Some x) b rest = refl

-- the values that get a number, each with its name
abbrev pub values_by : Definition → List (Option Name)
values_by (numbered token) = Some token.text ∷ []
values_by unnamed = None ∷ []
values_by (unnumbered token) = []

numbers_after : (t : Symbols) (ds : List Definition) (name : Name)
    → number_among (with_definitions t ds).entries name ≡ option_or (number_among t.entries name) (position_from (has_name name) t.count (flat_map values_by ds))
numbers_after t [] name = option_or_none (number_among t.entries name)
numbers_after t (unnamed ∷ ds) name = numbers_after (with_definition t unnamed) ds name
numbers_after t (numbered token ∷ ds) name =
    let later : Option ℕ = position_from (has_name name) (t.count + 1) (flat_map values_by ds) in
    numbers_after (with_definition t (numbered token)) ds name
    ∙ ap (λ o. option_or o later) (number_after t.entries token.text name (Some t.count))
    ∙ option_or_cond (number_among t.entries name) (bytes_eq name token.text) t.count later
numbers_after t (unnumbered token ∷ ds) name =
    let later : Option ℕ = position_from (has_name name) t.count (flat_map values_by ds) in
    numbers_after (with_definition t (unnumbered token)) ds name
    ∙ ap (λ o. option_or o later) (number_after t.entries token.text name None)
    ∙ option_or_neither (number_among t.entries name) (bytes_eq name token.text) later

finds_defined : (ds : List Definition) (values : List (Option Name)) → flat_map values_by ds ≡ values → FindsValues (with_definitions (reserved_only []) ds) values
finds_defined ds values is name =
    ap (λ o. unwrap_or o 0) (numbers_after (reserved_only []) ds name ∙ sym (position_from-zero (has_name name) (flat_map values_by ds)))
    ∙ ap (λ l. unwrap_or (position (has_name name) l) 0) is

values_of_args : (args : List WrittenArg) → flat_map values_by (map numbered (map arg_name args)) ≡ map defined_by_arg args
values_of_args [] = refl
values_of_args (a ∷ args) = ap (λ l. Some a.name.text ∷ l) (values_of_args args)

values_of_named : (tokens : List WrittenToken) → flat_map values_by (map numbered tokens) ≡ map (λ token. Some (name_of token)) tokens
values_of_named [] = refl
values_of_named (t ∷ ts) = ap (λ l. Some t.text ∷ l) (values_of_named ts)

values_of_results : (o : Op) (results : List WrittenToken) → flat_map values_by (definitions_of o results) ≡ defined_by o results
values_of_results o [] = by (has_one_result o)
  where
    by : (one : Bool) → flat_map values_by (if one then unnamed ∷ [] else []) ≡ (if one then None ∷ [] else [])
    by true = refl
    by false = refl
values_of_results o (t ∷ ts) = values_of_named (t ∷ ts)

values_of_insts : (insts : List WrittenInst) → flat_map values_by (flat_map definitions_by insts) ≡ flat_map defined_by_inst insts
values_of_insts [] = refl
values_of_insts (i ∷ insts) =
    flat_map-append values_by (definitions_by i) (flat_map definitions_by insts)
    ∙ ap (λ l. l ++ flat_map values_by (flat_map definitions_by insts)) (values_of_results i.op i.results)
    ∙ ap (λ l. defined_by_inst i ++ l) (values_of_insts insts)

no_values : (tokens : List WrittenToken) → flat_map values_by (map unnumbered tokens) ≡ []
no_values [] = refl
no_values (t ∷ ts) = no_values ts

values_of_block : (b : WrittenBlock) → flat_map values_by (definitions_in b) ≡ defined_in b
values_of_block b =
    flat_map-append values_by (map numbered (map arg_name b.args)) (flat_map definitions_by b.insts ++ map unnumbered b.terminator.results)
    ∙ ap (λ l. l ++ flat_map values_by (flat_map definitions_by b.insts ++ map unnumbered b.terminator.results)) (values_of_args b.args)
    ∙ ap (λ l. map defined_by_arg b.args ++ l)
    (flat_map-append values_by (flat_map definitions_by b.insts) (map unnumbered b.terminator.results)
    ∙ ap (λ l. l ++ flat_map values_by (map unnumbered b.terminator.results)) (values_of_insts b.insts)
    ∙ ap (λ l. flat_map defined_by_inst b.insts ++ l) (no_values b.terminator.results)
    ∙ append-nil (flat_map defined_by_inst b.insts))

values_of_blocks : (blocks : List WrittenBlock) → flat_map values_by (flat_map definitions_in blocks) ≡ flat_map defined_in blocks
values_of_blocks [] = refl
values_of_blocks (b ∷ blocks) =
    flat_map-append values_by (definitions_in b) (flat_map definitions_in blocks)
    ∙ ap (λ l. l ++ flat_map values_by (flat_map definitions_in blocks)) (values_of_block b)
    ∙ ap (λ l. defined_in b ++ l) (values_of_blocks blocks)

pub finds_values : (blocks : List WrittenBlock) → FindsValues (values_in blocks) (flat_map defined_in blocks)
finds_values blocks = finds_defined (flat_map definitions_in blocks) (flat_map defined_in blocks) (values_of_blocks blocks)

position_of_named : (name : Name) (from : ℕ) (tokens : List WrittenToken)
    → position_from (has_name name) from (flat_map values_by (map numbered tokens)) ≡ position_from (bytes_eq name) from (map name_of tokens)
position_of_named name from [] = refl
position_of_named name from (t ∷ ts) = ap (cond (bytes_eq name t.text) (Some from)) (position_of_named name (from + 1) ts)

pub finds_names : (tokens : List WrittenToken) → FindsNames (numbered_by tokens) (map name_of tokens)
finds_names tokens name =
    ap (λ o. unwrap_or o 0) (numbers_after (reserved_only []) (map numbered tokens) name ∙ position_of_named name 0 tokens ∙ sym (position_from-zero (bytes_eq name) (map name_of tokens)))

map_twice : {X Y Z : Type 0} (f : Y → Z) (h : X → Y) (xs : List X) → map f (map h xs) ≡ map (λ x. f (h x)) xs
map_twice f h [] = refl
map_twice f h (x ∷ xs) = ap (λ l. f (h x) ∷ l) (map_twice f h xs)

pub finds_each : {X : Type 0} (token : X → WrittenToken) (xs : List X) → FindsNames (numbered_by (map token xs)) (map (λ x. name_of (token x)) xs)
finds_each token xs = subst (FindsNames (numbered_by (map token xs))) (map_twice name_of token xs) (finds_names (map token xs))
