-- A function before its blocks, and with them.
use Rattle.std.proofs.Common.{◌≡◌, ℕ, true, List, [], ◌∷◌, ◌++◌, Option, length, refl, sym, ap, ◌∙◌, subst}
use Rattle.std.specs.Prelude.{fold}
use Rattle.std.specs.Str.{is_utf8}
use Rattle.gi_mir.specs.Data.{FunctionData}
use Rattle.gi_mir.specs.Edit.{with_stack}
use Rattle.gi_mir.specs.declared.operand.StackObject.{StackObject}
use Rattle.gi_spelling.specs.declared.token.RegisterClass.{RegisterClass}
use Rattle.gi_spelling.specs.declared.written.Wrong.{Wrong}
use Rattle.gi_spelling.specs.Blocks.{blocks_in}
use Rattle.gi_spelling.specs.Documents.{Document, key_word, read_document, tables_of}
use Rattle.gi_spelling.specs.Lines.{Line, Section}
use Rattle.gi_spelling.specs.Named.{IsNamedFunction}
use Rattle.gi_spelling.specs.Read.{IsReadAs}
use Rattle.gi_resolve.specs.Meant.{IsNumberOf}
use Rattle.gi_mir_read.specs.Documents.Begun.{begun, keyed}
use Rattle.gi_mir_read.specs.Documents.Keyed.{under_bar}
use Rattle.gi_spelling.specs.declared.written.Key.TheVariants.{Body}
use Rattle.gi_mir_read.specs.Functions.ReadBlocks.{BlocksAreRead, tables_in}
use Rattle.gi_resolve.proofs.NamingLemmas.{number-kept}

-- stack objects are all that is added
stacked-name : (f : FunctionData) (objects : List StackObject) → (fold with_stack f objects).name ≡ f.name
stacked-name f [] = refl
stacked-name f (object ∷ objects) = stacked-name (with_stack f object) objects

stacked-named : (text : List ℕ) (names : List (List ℕ)) (f g : FunctionData) (objects : List StackObject) → IsNamedFunction text names f g
    → IsNamedFunction text names (fold with_stack f objects) (fold with_stack g objects)
stacked-named text names f g [] named = named
stacked-named text names f g (object ∷ objects) named = stacked-named text names (with_stack f object) (with_stack g object) objects (record {
  legalized = named.legalized;
  banked = named.banked;
  selected = named.selected;
  stack = ap (λ those. those ++ object ∷ []) named.stack;
  blocks = named.blocks;
  next_reg = named.next_reg;
  next_id = named.next_id;
})

begun-named : (text : List ℕ) (names : List (List ℕ)) (number : ℕ) (document : Document) → IsNamedFunction text names (begun 0 document) (begun number document)
begun-named text names number document = stacked-named text names (keyed 0 document) (keyed number document) document.objects (record {
  legalized = refl;
  banked = refl;
  selected = refl;
  stack = refl;
  blocks = tt;
  next_reg = refl;
  next_id = refl;
})

module _ (text : List ℕ) (middle new : List (List ℕ)) (sections : List Section) (number : ℕ) (before after : Option Wrong) (g : FunctionData) where
  -- the blocks of a document are read
  pub document-read : (bare whole : FunctionData) (classes : List (ℕ × RegisterClass)) (objects : ℕ) (lines : List Line)
      → bare ≡ keyed number (read_document text sections) → whole ≡ fold with_stack bare (read_document text sections).objects
      → classes ≡ (read_document text sections).classes → objects ≡ length (read_document text sections).objects → lines ≡ under_bar text (key_word Body) sections
      → BlocksAreRead text (tables_in text classes objects (blocks_in text lines)) (blocks_in text lines) middle new whole g before after
      → BlocksAreRead text (tables_of text (read_document text sections)) (read_document text sections).blocks middle new (begun number (read_document text sections)) g before after
  document-read bare whole classes objects lines bare_is whole_is classes_are objects_are lines_are read =
      let document : Document = read_document text sections in
      let whole_begun : whole ≡ begun number document = whole_is ∙ ap (λ f. fold with_stack f document.objects) bare_is in
      subst (λ f. BlocksAreRead text (tables_of text document) document.blocks middle new f g before after) whole_begun
      (subst (λ n. BlocksAreRead text (tables_in text document.classes n document.blocks) document.blocks middle new whole g before after) objects_are
      (subst (λ those. BlocksAreRead text (tables_in text those objects document.blocks) document.blocks middle new whole g before after) classes_are
      (subst (λ those. BlocksAreRead text (tables_in text classes objects (blocks_in text those)) (blocks_in text those) middle new whole g before after) lines_are read)))

  -- its function is read
  pub function-read : (name : List ℕ) → name ≡ (read_document text sections).name → (is_utf8 name ≡ true → IsNumberOf middle name number)
      → BlocksAreRead text (tables_of text (read_document text sections)) (read_document text sections).blocks middle new (begun number (read_document text sections)) g before after
      → is_utf8 (read_document text sections).name ≡ true → IsReadAs text new (read_document text sections) g
  function-read name name_is numbered read is_text =
      let document : Document = read_document text sections in
      let here : IsNumberOf middle document.name number = subst (λ those. IsNumberOf middle those number) name_is (numbered (ap is_utf8 name_is ∙ is_text)) in
      let named : IsNumberOf new document.name g.name =
      subst (IsNumberOf new document.name) (sym (read.name ∙ stacked-name (keyed number document) document.objects)) (number-kept middle new document.name number read.grown here) in
      record {
        within = named.within;
        name = named.named;
        same = read.named (begun 0 document) (begun-named text middle number document);
      }
