-- A printed function reads as itself.
use Rattle.std.proofs.Common.{◌≡◌, ℕ, ◌≤◌, List, [], ◌∷◌, ◌++◌, length, map, filter, None, codes, refl, ap, sym, ◌∙◌, arith}
use Rattle.std.specs.List.{flat_map}
use Rattle.std.proofs.lemmas.Grind.{flat_map-append}
use Rattle.std.proofs.lemmas.List.{append_assoc, length-map}
use Rattle.sil_ast.specs.declared.function.Block.{Block}
use Rattle.sil_ast.specs.declared.function.Form.{Form}
use Rattle.sil_ast.specs.declared.function.Form.TheVariants.{External, Lowered, Ossa}
use Rattle.sil_ast.specs.declared.function.Function.{Function}
use Rattle.sil_ast.specs.declared.function.Linkage.{Linkage}
use Rattle.sil_ast.specs.declared.function.Linkage.TheVariants as linkage
use Rattle.sil_printer.specs.CanonicalFunctions.{attribute_text, block_text, body_text, form_text, function_text, linkage_text, words_text}
use Rattle.sil_printer.specs.CanonicalSignatures.{signature_text}
use Rattle.sil_printer.specs.Words.{each_behind, line}
use Rattle.sil_grammar_classes.specs.declared.classes.Keyword.TheVariants as k
use Rattle.sil_grammar_classes.specs.declared.classes.Punctuation.TheVariants as m
use Rattle.sil_grammar_tables.specs.declared.grammar.Nonterminal.TheVariants as n
use Rattle.sil_grammar_tables.specs.declared.grammar.Production.TheVariants as p
use Rattle.sil_grammar_tables.specs.Grammar.{body, written}
use Rattle.sil_grammar_classes.specs.Spelling.{punctuation_spelling, spelling}
use Rattle.sil_rules.specs.declared.limit_word.LimitWord.TheVariants as limit
use Rattle.sil_grammar_tree.specs.declared.written_tree.written_declarations.WrittenToken.{WrittenToken}
use Rattle.sil_grammar_tree.specs.declared.written_tree.written_functions.WrittenBlock.{WrittenBlock}
use Rattle.sil_grammar_tree.specs.declared.written_tree.written_module.WrittenItem.TheVariants as item
use Rattle.sil_grammar_tree.specs.WrittenTree.Faults.{passed}
use Rattle.sil_grammar_modules.specs.Leaves.{kept_of}
use Rattle.sil_grammar_values.specs.inner.Meaning.{meaning}
use Rattle.sil_grammar_values.specs.Opened.{PartValue}
use Rattle.sil_grammar_values.specs.inner.PartFaults.{body_fault, part_fault}
use Rattle.sil_grammar_tree.specs.WrittenTree.Places.{attribute_places, is_kept, label_place, mnemonics_of, token_place, values_of_block}
use Rattle.sil_grammar_tree.proofs.WrittenTree.FaultOrder.{neither}
use Rattle.sil_grammar_values.specs.Values.{blocks_of, item_of, linkage_of, token_of, tokens_of}
use Rattle.sil_grammar_names.specs.NameScopes.Names.{Name, name_of}
use Rattle.numbered_form.specs.inner.Functions.{IsAttribute}
use Rattle.numbered_form.specs.Lists.{Each}
use Rattle.numbered_form.specs.inner.Limits.{IsFunctionInLimits}
use Rattle.numbered_form.specs.Names.{IsFunctionSpelled, IsWord}
use Rattle.numbered_form.specs.inner.Types.{HasSignatureTypes}
use Rattle.sil_grammar.proofs.NumberedReadingLaws.ListsAndFaults.{Each-append}
use Rattle.sil_printer_laws.proofs.BlockCounts.{inst_count_is, length_blocks, value_count_is}
use Rattle.sil_printer_laws.proofs.BlockReading.{IsBlockPrintable, block_reads, blocks_behind, blocks_read}
use Rattle.sil_printer_laws.proofs.Items.{IsItem}
use Rattle.sil_printer_laws.proofs.FixedTokens.{any_at, any_word, keyword_here, punctuation_here}
use Rattle.sil_printer_laws.proofs.PartLimits.{not_passed}
use Rattle.sil_printer_laws.proofs.Pieces.{Ends, Stands, Reads as reads}
use Rattle.sil_printer_laws.proofs.ResolvedForms.{attributes_are}
use Rattle.sil_printer_laws.proofs.ProductionReading.{stands_by, part_here}
use Rattle.sil_printer_laws.proofs.SignatureReading.{signature_reads}
use Rattle.sil_printer_laws.proofs.Written.{AreBlocksWritten, IsFunctionWritten, form_words}

pub record IsFunctionPrintable (functions : List Function) (f : Function) : Type 0 where
  pub spelled : IsFunctionSpelled f
  pub attributes : Each IsAttribute f.attributes
  pub signature : HasSignatureTypes f.signature
  pub limits : IsFunctionInLimits f
  pub blocks : Each (IsBlockPrintable functions) f.blocks

-- what stands between `sil` and the attributes
linkage_reads : (text : List ℕ) (l : Linkage) (after : List ℕ) → Ends after → Stands text n.Linkage (λ x. linkage_of x ≡ l) (linkage_text l ++ after) after
unfolding body written meaning part_fault spelling linkage_of
linkage_reads text linkage.Plain after ends = stands_by p.LinkagePlain (λ x. linkage_of x ≡ linkage.Plain) reads.nothing refl refl
linkage_reads text linkage.Hidden after ends = stands_by p.LinkageHidden (λ x. linkage_of x ≡ linkage.Hidden) (reads.blank 32 refl (keyword_here k.Hidden refl ends reads.nothing)) refl refl
linkage_reads text linkage.Private after ends = stands_by p.LinkagePrivate (λ x. linkage_of x ≡ linkage.Private) (reads.blank 32 refl (keyword_here k.Private refl ends reads.nothing)) refl refl
linkage_reads text linkage.Shared after ends = stands_by p.LinkageShared (λ x. linkage_of x ≡ linkage.Shared) (reads.blank 32 refl (keyword_here k.Shared refl ends reads.nothing)) refl refl
linkage_reads text linkage.Public after ends = stands_by p.LinkagePublic (λ x. linkage_of x ≡ linkage.Public) (reads.blank 32 refl (keyword_here k.Public refl ends reads.nothing)) refl refl

-- words in brackets

abbrev pub bracketed : List Name → List ℕ
bracketed words = each_behind (codes " [") attribute_text words

abbrev pub AreNamed : List Name → PartValue → Type 0
AreNamed words x = map name_of (tokens_of x) ≡ words

bracket_ahead : (word others rest : List ℕ) → ((word ++ codes "]") ++ others) ++ rest ≡ word ++ (93 ∷ (others ++ rest))
bracket_ahead word others rest = simp append_assoc refl

attributes_read : (text : List ℕ) (words : List Name) (rest : List ℕ) → Each IsWord words → Stands text n.Attributes (AreNamed words) (bracketed words ++ rest) rest
unfolding body written meaning part_fault punctuation_spelling kept_of token_of tokens_of
attributes_read text [] rest spelled = stands_by p.AttributesEnd (AreNamed []) reads.nothing refl refl
attributes_read text (word ∷ words) rest spelled =
    let others = attributes_read text words rest spelled.1 in
    rw (bracket_ahead word (bracketed words) rest)
    (stands_by p.AttributesMore (AreNamed (word ∷ words))
    (reads.blank 32 refl (punctuation_here m.LeftBracket 91 refl refl (any_word word spelled.0 refl (punctuation_here m.RightBracket 93 refl refl (part_here others reads.nothing))))) refl
    (ap (λ words. word ∷ words) others.stands))

words_end : (words : List Name) (rest : List ℕ) → Ends (bracketed words ++ (32 ∷ rest))
words_end [] rest = refl
words_end (word ∷ words) rest = refl

linkage_ends : (l : Linkage) (words : List Name) (rest : List ℕ) → Ends (linkage_text l ++ (bracketed words ++ (32 ∷ rest)))
linkage_ends linkage.Plain words rest = words_end words rest
linkage_ends _ words rest = refl

form_bracketed : (f : Form) → form_text f ≡ bracketed (form_words f)
form_bracketed Ossa = refl
form_bracketed Lowered = refl
form_bracketed External = refl

form_spelled : (f : Form) → Each IsWord (form_words f)
form_spelled Ossa = (refl, tt)
form_spelled Lowered = tt
form_spelled External = tt

-- the attributes with the word of the form are the words in brackets
all_bracketed : (attributes : List Name) (f : Form) (rest : List ℕ) → bracketed attributes ++ (form_text f ++ rest) ≡ bracketed (attributes ++ form_words f) ++ rest
all_bracketed attributes f rest =
    sym (append_assoc (bracketed attributes) (form_text f) rest)
    ∙ ap (λ words. (bracketed attributes ++ words) ++ rest) (form_bracketed f)
    ∙ ap (λ words. words ++ rest) (sym (flat_map-append (λ word. codes " [" ++ attribute_text word) attributes (form_words f)))

-- the body

abbrev pub AreBlockValues : List Function → List Block → PartValue → Type 0
AreBlockValues functions blocks x = AreBlocksWritten functions 0 blocks (blocks_of x)

body_ends : (functions : List Function) (blocks : List Block) (after : List ℕ) → Ends (body_text functions blocks ++ after)
body_ends functions [] after = refl
body_ends functions (b ∷ blocks) after = refl

blocks_ahead : (first others after : List ℕ) → (line (codes " {") ++ (first ++ others) ++ line (codes "}")) ++ after ≡ 32 ∷ 123 ∷ 10 ∷ (first ++ (others ++ (125 ∷ 10 ∷ after)))
blocks_ahead first others after = simp append_assoc refl

body_reads : (text : List ℕ) (functions : List Function) (blocks : List Block) (after : List ℕ) → length blocks ≤ 512 → Each (IsBlockPrintable functions) blocks
    → Stands text n.Body (AreBlockValues functions blocks) (body_text functions blocks ++ after) after
unfolding body written meaning part_fault punctuation_spelling blocks_of
body_reads text functions [] after few printable = stands_by p.BodyNone (AreBlockValues functions []) (reads.blank 10 refl reads.nothing) refl tt
body_reads text functions (b ∷ blocks) after few printable =
    let others = blocks_read text functions 1 blocks (125 ∷ 10 ∷ after) (omega arith) printable.1 in
    let first = block_reads text functions 0 b (blocks_behind functions 1 blocks ++ (125 ∷ 10 ∷ after)) (omega arith) printable.0 in
    rw (blocks_ahead (block_text functions 0 b) (blocks_behind functions 1 blocks) after)
    (stands_by p.BodySome (AreBlockValues functions (b ∷ blocks))
    (reads.blank 32 refl (punctuation_here m.LeftBrace 123 refl refl
    (reads.blank 10 refl (part_here first (part_here others (punctuation_here m.RightBrace 125 refl refl (reads.blank 10 refl reads.nothing))))))) refl
    (first.stands, others.stands))

-- no limit is passed

attribute_count : (tokens : List WrittenToken) (attributes : List Name) (f : Form) → Each IsAttribute attributes → map name_of tokens ≡ attributes ++ form_words f
    → length (attribute_places tokens) ≡ length attributes
attribute_count tokens attributes f each named =
    length-map (filter is_kept tokens) token_place ∙ sym (length-map (filter is_kept tokens) name_of) ∙ ap length (sym (attributes_are attributes f tokens each named))

body_is_good : (functions : List Function) (f : Function) (blocks : List WrittenBlock) → IsFunctionPrintable functions f → AreBlocksWritten functions 0 f.blocks blocks
    → body_fault blocks ≡ None
body_is_good functions f blocks printable written =
    let labels : length (map label_place blocks) ≡ length f.blocks = length-map blocks label_place ∙ length_blocks functions 0 f.blocks blocks written in
    neither (passed limit.Blocks 512 (map label_place blocks)) _ (not_passed limit.Blocks 512 (map label_place blocks) (omega (arith, labels, printable.limits.blocks)))
    (neither (passed limit.Instructions 4096 (flat_map mnemonics_of blocks)) _
    (not_passed limit.Instructions 4096 (flat_map mnemonics_of blocks) (omega (arith, inst_count_is functions 0 f.blocks blocks written, printable.limits.insts)))
    (not_passed limit.Values 1024 (flat_map values_of_block blocks) (omega (arith, value_count_is functions 0 f.blocks blocks written printable.blocks, printable.limits.values))))

words_ahead : (kind attributes form rest : List ℕ) → (codes "sil" ++ kind ++ attributes ++ form) ++ rest ≡ 115 ∷ 105 ∷ 108 ∷ (kind ++ (attributes ++ (form ++ rest)))
words_ahead kind attributes form rest = simp append_assoc refl

head_ahead : (words name signature inside after : List ℕ)
    → (words ++ codes " @" ++ name ++ codes " : " ++ (codes "$" ++ signature) ++ inside) ++ after
    ≡ words ++ (32 ∷ 64 ∷ (name ++ (32 ∷ 58 ∷ 32 ∷ 36 ∷ (signature ++ (inside ++ after)))))
head_ahead words name signature inside after = simp append_assoc refl

-- the text of a function from left to right, the word of its form among the attributes
function_ahead : (functions : List Function) (f : Function) (after : List ℕ) → function_text functions f ++ after
    ≡ 115 ∷ 105 ∷ 108 ∷ (linkage_text f.linkage ++ (bracketed (f.attributes ++ form_words f.form)
    ++ (32 ∷ 64 ∷ (f.name ++ (32 ∷ 58 ∷ 32 ∷ 36 ∷ (signature_text f.signature ++ (body_text functions f.blocks ++ after)))))))
function_ahead functions f after =
    let rest = 32 ∷ 64 ∷ (f.name ++ (32 ∷ 58 ∷ 32 ∷ 36 ∷ (signature_text f.signature ++ (body_text functions f.blocks ++ after)))) in
    head_ahead (words_text f) f.name (signature_text f.signature) (body_text functions f.blocks) after
    ∙ words_ahead (linkage_text f.linkage) (bracketed f.attributes) (form_text f.form) rest
    ∙ ap (λ back. 115 ∷ 105 ∷ 108 ∷ (linkage_text f.linkage ++ back)) (all_bracketed f.attributes f.form rest)

pub function_reads : (text : List ℕ) (functions : List Function) (f : Function) (after : List ℕ) → IsFunctionPrintable functions f
    → Stands text n.Item (IsItem item.Function (IsFunctionWritten functions) f) (function_text functions f ++ after) after
unfolding body written meaning part_fault spelling punctuation_spelling kept_of token_of item_of
function_reads text functions f after printable =
    let words = f.attributes ++ form_words f.form in
    let inside = body_reads text functions f.blocks after printable.limits.blocks printable.blocks in
    let signature = signature_reads text f.signature (body_text functions f.blocks ++ after) printable.signature printable.limits.signature (body_ends functions f.blocks after) in
    let behind_words = 64 ∷ (f.name ++ (32 ∷ 58 ∷ 32 ∷ 36 ∷ (signature_text f.signature ++ (body_text functions f.blocks ++ after)))) in
    let attributes = attributes_read text words (32 ∷ behind_words) (Each-append IsWord f.attributes (form_words f.form) printable.spelled.attributes (form_spelled f.form)) in
    let kind = linkage_reads text f.linkage (bracketed words ++ (32 ∷ behind_words)) (words_end words behind_words) in
    rw (function_ahead functions f after)
    (stands_by p.FunctionItem (IsItem item.Function (IsFunctionWritten functions) f)
    (keyword_here k.Sil refl (linkage_ends f.linkage words behind_words) (part_here kind (part_here attributes (reads.blank 32 refl
    (any_at f.name printable.spelled.name refl (reads.blank 32 refl (punctuation_here m.Colon 58 refl refl (reads.blank 32 refl (punctuation_here m.Dollar 36 refl refl
    (part_here signature (part_here inside reads.nothing)))))))))))
    (neither (passed limit.Arguments 64 (attribute_places (tokens_of attributes.value))) (body_fault (blocks_of inside.value))
    (not_passed limit.Arguments 64 (attribute_places (tokens_of attributes.value))
    (omega (arith, attribute_count (tokens_of attributes.value) f.attributes f.form printable.attributes attributes.stands, printable.limits.attributes)))
    (body_is_good functions f (blocks_of inside.value) printable inside.stands))
    (record { item = _; is_item = refl; stands = record { name = refl; linkage = kind.stands; attributes = attributes.stands; signature = signature.stands; blocks = inside.stands } }))
