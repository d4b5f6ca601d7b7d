-- What the top call says of the reason to stop.
use Rattle.std.proofs.Common.{◌≡◌, ◌⊎◌, ℕ, List, inl, inr, refl, ◌∙◌, sym, subst, arith}
use Rattle.std.specs.Prelude.{Result, Ok, codes}
use Rattle.gi_answer.specs.Answers.{RefusesWith}
use Rattle.gi_options.specs.Options.{OptionsData, options_of}
use Rattle.gi_top.specs.Stop.{IsCause, UsageOf, UsageSaid, status_of, message_of}
use Rattle.gi_top.specs.declared.stop.Stop.{Stop}
use Rattle.gi_top.specs.declared.stop.Stop.TheVariants as stop

stops_refused : (words : List (List ℕ)) (options : OptionsData) (read : List ℕ) (why : Stop) (Said : List ℕ → Type 0) → options_of words ≡ Ok options → IsCause options read why → 1 ≡ status_of why → Said (message_of why)
    → RefusesWith words read Said
stops_refused words options read (stop.Usage word) Said taken cause one said = absurd (omega (arith, one))
stops_refused words options read stop.ReadFault Said taken cause one said = absurd (omega (arith, one))
stops_refused words options read stop.TooLong Said taken cause one said =
    record { options = options; taken = taken; message = _; refusal = inl (record { long = cause; says = refl }); said = said }
stops_refused words options read (stop.Refused message) Said taken cause one said =
    record { options = options; taken = taken; message = message.items; refusal = inr cause; said = said }
stops_refused words options read stop.Memory Said taken cause one said = absurd (omega (arith, one))

pub refuses : (words : List (List ℕ)) (options : OptionsData) (read : List ℕ) (why : Stop) (result : ℕ) (Said : List ℕ → Type 0) → options_of words ≡ Ok options → IsCause options read why
    → (result ≡ status_of why) ⊎ (result ≡ 3) → result ≡ 1 → Said (message_of why) → RefusesWith words read Said
refuses words options read why result Said taken cause (inl same) one said = stops_refused words options read why Said taken cause (sym one ∙ same) said
refuses words options read why result Said taken cause (inr memory) one said = absurd (let no : 3 ≡ 1 = sym memory ∙ one in omega (arith, no))

-- words that are right end in no usage
no_usage : (options : OptionsData) (why : Stop) → UsageOf (Ok options) why → 2 ≡ status_of why → ⊥
no_usage options (stop.Usage word) usage two = cc
no_usage options stop.ReadFault usage two = omega (arith, two)
no_usage options stop.TooLong usage two = omega (arith, two)
no_usage options (stop.Refused message) usage two = omega (arith, two)
no_usage options stop.Memory usage two = omega (arith, two)

pub says_no_usage : (options : OptionsData) (found : Result OptionsData (List ℕ)) (why : Stop) (result : ℕ) (Said : List ℕ → Type 0) → found ≡ Ok options → UsageOf (Ok options) why
    → (result ≡ status_of why) ⊎ (result ≡ 3) → result ≡ 2 → UsageSaid found Said
says_no_usage options found why result Said taken usage (inl same) two = absurd (no_usage options why usage (sym two ∙ same))
says_no_usage options found why result Said taken usage (inr memory) two = absurd (let no : 3 ≡ 2 = sym memory ∙ two in omega (arith, no))

read_fault_told : (options : OptionsData) (why : Stop) → UsageOf (Ok options) why → 4 ≡ status_of why → message_of why ≡ codes "gisel: read fault"
read_fault_told options (stop.Usage word) usage four = absurd (omega (arith, four))
read_fault_told options stop.ReadFault usage four = refl
read_fault_told options stop.TooLong usage four = absurd (omega (arith, four))
read_fault_told options (stop.Refused message) usage four = absurd (omega (arith, four))
read_fault_told options stop.Memory usage four = absurd (omega (arith, four))

pub says_read_fault : (options : OptionsData) (why : Stop) (result : ℕ) (Said : List ℕ → Type 0) → UsageOf (Ok options) why
    → (result ≡ status_of why) ⊎ (result ≡ 3) → result ≡ 4 → Said (message_of why) → Said (codes "gisel: read fault")
says_read_fault options why result Said usage (inl same) four said = subst Said (read_fault_told options why usage (sym four ∙ same)) said
says_read_fault options why result Said usage (inr memory) four said = absurd (let no : 3 ≡ 4 = sym memory ∙ four in omega (arith, no))
