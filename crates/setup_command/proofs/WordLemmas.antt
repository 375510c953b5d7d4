-- What a command of `clap` tells of the words after its name.
use Rattle.std.proofs.Common.{ap, ap₂, sym, refl, codes, true, List, Option, Some, None, [], ◌∷◌, ◌≡◌, ◌∙◌, inl, inr, subst, Bor}
use Rattle.std.specs.Prelude.{IfSome, IfNone, option_map}
use Rattle.std.specs.List.{list_all}
use Rattle.clap.specs.Matches.{found_of, first_value}
use Rattle.clap.specs.Walk.{Text, rows_of, first_of}
use Rattle.clap.specs.Faults.{fault_of, is_simple_and_free}
use Rattle.clap.specs.Simple.{App, HasMatchesOf, matches_of}
use Rattle.clap.specs.Kinds.{Kinds, HasKind}
use Rattle.clap.specs.Values.{kind_of}
use Rattle.clap.specs.declared.error.Error.{Error}
use Rattle.clap.specs.declared.error.kind.ErrorKind.TheVariants as kind
use Rattle.clap.specs.declared.parser.matches.ArgMatches.{ArgMatches}
use Rattle.clap.proofs.WalkLemmas.{first_value-rows}
use Rattle.mail_store.proofs.ChangeLemmas.{and_left, and_right}
use Rattle.setup_command.specs.private.Apps.{domain_app, account_app, account_words}
use Rattle.setup_command.specs.PlainWords.{is_plain_word, IsCalled}
use Rattle.setup_command.proofs.ReadLemmas.{domain_simple, account_simple, domain_none, domain_one, domain_more, domain_value, domain_is_simple, account_is_simple, account_none, account_more, plain_password, account_faultless, account_address_found, account_password_found}

first_plain : (word : Text) (rest : List Text) → list_all is_plain_word (word ∷ rest) ≡ true → is_plain_word word ≡ true
first_plain word rest all = and_left (is_plain_word word) (list_all is_plain_word rest) all

rest_plain : (word : Text) (rest : List Text) → list_all is_plain_word (word ∷ rest) ≡ true → list_all is_plain_word rest ≡ true
rest_plain word rest all = and_right (is_plain_word word) (list_all is_plain_word rest) all

-- the words after one list's name are those after the other's
following : (name : Text) (a b : List Text) → name ∷ a ≡ name ∷ b → a ≡ b
following name a b same = cc

some_same : (a b : Text) → Some a ≡ Some b → a ≡ b
some_same a b same = cc

-- a text that was found
found_text : (m : ArgMatches) (id text : Text) (result : Option (Bor Text)) → option_map (λ s. s.now) result ≡ first_value (found_of m) id
    → first_of id (rows_of (found_of m)) ≡ Some text → (value : Bor Text) × (result ≡ Some value) × (value.now ≡ text)
found_text m id text None is found = let differs : None ≡ Some text = is ∙ first_value-rows (found_of m) id ∙ found in absurd (cc differs)
found_text m id text (Some value) is found = (value, refl, some_same value.now text (is ∙ first_value-rows (found_of m) id ∙ found))

-- no words that are taken were refused
taken_refused : (kinds : Kinds) (e : Error) → kinds ≡ [] → HasKind kinds e → (kind_of e ≡ kind.OutOfMemory → ⊥) → ⊥
taken_refused kinds e none (inl memory) other = other memory
taken_refused kinds e none (inr among) other = rw none at among

-- ---- one argument

-- the words after the name that are taken are one
domain_word : (rest : List Text) → list_all is_plain_word rest ≡ true → fault_of domain_app (codes "domain" ∷ rest) ≡ [] → (word : Text) × (rest ≡ word ∷ []) × (is_plain_word word ≡ true)
domain_word [] plain faultless = let differs = sym domain_none ∙ faultless in absurd (cc differs)
domain_word (word ∷ []) plain faultless = (word, refl, first_plain word [] plain)
domain_word (word ∷ next ∷ more) plain faultless =
    let differs = sym (domain_more word next more (first_plain word (next ∷ more) plain) (first_plain next more (rest_plain word (next ∷ more) plain))) ∙ faultless in absurd (cc differs)

-- and that word was found
domain_taken : (words : List Text) (m : ArgMatches) (result : Option (Bor Text)) → IsCalled (codes "domain") words → fault_of domain_app words ≡ [] → HasMatchesOf domain_app words m
    → option_map (λ s. s.now) result ≡ first_value (found_of m) (codes "domain") → (value : Bor Text) × (result ≡ Some value) × (words ≡ codes "domain" ∷ value.now ∷ [])
domain_taken words m result called faultless matches is =
    let (word, one, plain) = domain_word called.rest called.plain (subst (λ (l : List Text). fault_of domain_app l ≡ []) called.words_are faultless) in
    let words_are : words ≡ codes "domain" ∷ word ∷ [] = called.words_are ∙ ap (λ (l : List Text). codes "domain" ∷ l) one in
    let row : first_of (codes "domain") (rows_of (found_of m)) ≡ Some word =
    ap (first_of (codes "domain")) ((matches domain_is_simple).0 ∙ ap (matches_of domain_app) words_are) ∙ domain_value word plain in
    let (value, some, now) = found_text m (codes "domain") word result is row in
    (value, some, words_are ∙ ap (λ (w : Text). codes "domain" ∷ w ∷ []) (sym now))

pub domain_some : (app : App) (words : List Text) (m : ArgMatches) (result : Option (Bor Text)) → app ≡ domain_app → IsCalled (codes "domain") words
    → (is_simple_and_free app ≡ true → fault_of app words ≡ []) → HasMatchesOf app words m → option_map (λ s. s.now) result ≡ first_value (found_of m) (codes "domain")
    → IfSome result (λ value. words ≡ codes "domain" ∷ value.now ∷ []) × IfNone result ((value : Text) → words ≡ codes "domain" ∷ value ∷ [] → ⊥)
domain_some app words m result app_is called faultless matches is =
    let (value, some, words_are) = domain_taken words m result called (rw app_is at (faultless (ap is_simple_and_free app_is ∙ domain_simple))) (rw app_is at matches) is in
    (rw some words_are, rw some tt)

-- words that are refused aren't the name and one word
domain_lacks : (words : List Text) (e : Error) → IsCalled (codes "domain") words → HasKind (fault_of domain_app words) e → (kind_of e ≡ kind.OutOfMemory → ⊥)
    → (value : Text) → words ≡ codes "domain" ∷ value ∷ [] → ⊥
domain_lacks words e called refused other value are =
    let rest_is : called.rest ≡ value ∷ [] = following (codes "domain") called.rest (value ∷ []) (sym called.words_are ∙ are) in
    let plain : is_plain_word value ≡ true = first_plain value [] (subst (λ (l : List Text). list_all is_plain_word l ≡ true) rest_is called.plain) in
    taken_refused (fault_of domain_app words) e (ap (fault_of domain_app) are ∙ domain_one value plain) refused other

pub domain_refused : (app : App) (words : List Text) (e : Error) → app ≡ domain_app → IsCalled (codes "domain") words
    → (is_simple_and_free app ≡ true → HasKind (fault_of app words) e) → (kind_of e ≡ kind.OutOfMemory → ⊥) → (value : Text) → words ≡ codes "domain" ∷ value ∷ [] → ⊥
domain_refused app words e app_is called refused other =
    domain_lacks words e called (rw app_is at (refused (ap is_simple_and_free app_is ∙ domain_simple))) other

-- ---- one argument, and one that may be missing

-- what the words after the name are that are taken
record AreTaken (rest : List Text) : Type 0 where
  address : Text
  password : Option Text
  words_are : codes "account" ∷ rest ≡ account_words address password
  plain : is_plain_word address ≡ true
  also : plain_password password

account_taken_words : (rest : List Text) → list_all is_plain_word rest ≡ true → fault_of account_app (codes "account" ∷ rest) ≡ [] → AreTaken rest
account_taken_words [] plain faultless = let differs = sym account_none ∙ faultless in absurd (cc differs)
account_taken_words (address ∷ []) plain faultless = record { address = address; password = None; words_are = refl; plain = first_plain address [] plain; also = tt }
account_taken_words (address ∷ password ∷ []) plain faultless = record {
  address = address;
  password = Some password;
  words_are = refl;
  plain = first_plain address (password ∷ []) plain;
  also = first_plain password [] (rest_plain address (password ∷ []) plain);
}
account_taken_words (address ∷ password ∷ next ∷ more) plain faultless =
    let after_first = rest_plain address (password ∷ next ∷ more) plain in
    let differs = sym (account_more address password next more (first_plain address (password ∷ next ∷ more) plain) (first_plain password (next ∷ more) after_first)
    (first_plain next more (rest_plain password (next ∷ more) after_first))) ∙ faultless in
    absurd (cc differs)

spelled : (words : List Text) (a address : Text) (p password : Option Text) → words ≡ account_words a p → address ≡ a → password ≡ p → words ≡ account_words address password
spelled words a address p password words_are is also = words_are ∙ sym (ap₂ account_words is also)

-- the address was found, and the password where there is one
pub record AreFound (words : List Text) (first second : Option (Bor Text)) : Type 0 where
  pub address : Bor Text
  pub found : first ≡ Some address
  pub words_are : words ≡ account_words address.now (option_map (λ s. s.now) second)

account_found : (words : List Text) (m : ArgMatches) (first second : Option (Bor Text)) → IsCalled (codes "account") words → fault_of account_app words ≡ []
    → HasMatchesOf account_app words m → option_map (λ s. s.now) first ≡ first_value (found_of m) (codes "address") → option_map (λ s. s.now) second ≡ first_value (found_of m) (codes "password")
    → AreFound words first second
account_found words m first second called faultless matches is also =
    let taken = account_taken_words called.rest called.plain (subst (λ (l : List Text). fault_of account_app l ≡ []) called.words_are faultless) in
    let words_are : words ≡ account_words taken.address taken.password = called.words_are ∙ taken.words_are in
    let rows = (matches account_is_simple).0 ∙ ap (matches_of account_app) words_are in
    let (address, some, now) = found_text m (codes "address") taken.address first is (ap (first_of (codes "address")) rows ∙ account_address_found taken.address taken.password taken.plain taken.also) in
    let password = also ∙ first_value-rows (found_of m) (codes "password") ∙ ap (first_of (codes "password")) rows ∙ account_password_found taken.address taken.password taken.plain taken.also in
    record { address = address; found = some; words_are = spelled words taken.address address.now taken.password (option_map (λ s. s.now) second) words_are now password }

pub account_some : (app : App) (words : List Text) (m : ArgMatches) (first second : Option (Bor Text)) → app ≡ account_app
    → IsCalled (codes "account") words → (is_simple_and_free app ≡ true → fault_of app words ≡ []) → HasMatchesOf app words m
    → option_map (λ s. s.now) first ≡ first_value (found_of m) (codes "address") → option_map (λ s. s.now) second ≡ first_value (found_of m) (codes "password")
    → AreFound words first second
account_some app words m first second app_is called faultless matches is also =
    account_found words m first second called (rw app_is at (faultless (ap is_simple_and_free app_is ∙ account_simple))) (rw app_is at matches) is also

-- the address that was found is that of the words
pub account_same : (words : List Text) (first second : Option (Bor Text)) (address : Bor Text) → AreFound words first second → first ≡ Some address
    → words ≡ account_words address.now (option_map (λ s. s.now) second)
account_same words first second address are is =
    let same : are.address ≡ address = bor_same are.address address (sym are.found ∙ is) in
    are.words_are ∙ ap (λ (b : Bor Text). account_words b.now (option_map (λ s. s.now) second)) same
  where
    bor_same : (a b : Bor Text) → Some a ≡ Some b → a ≡ b
    bor_same a b same = cc

-- and it was found
there_of : (words : List Text) (m : ArgMatches) (first : Option (Bor Text)) → IsCalled (codes "account") words → fault_of account_app words ≡ [] → HasMatchesOf account_app words m
    → option_map (λ s. s.now) first ≡ first_value (found_of m) (codes "address") → first ≡ None → ⊥
there_of words m first called faultless matches is none =
    let taken = account_taken_words called.rest called.plain (subst (λ (l : List Text). fault_of account_app l ≡ []) called.words_are faultless) in
    let rows = (matches account_is_simple).0 ∙ ap (matches_of account_app) (called.words_are ∙ taken.words_are) in
    let (address, some, now) = found_text m (codes "address") taken.address first is (ap (first_of (codes "address")) rows ∙ account_address_found taken.address taken.password taken.plain taken.also) in
    let differs = sym none ∙ some in cc differs

pub account_there : (app : App) (words : List Text) (m : ArgMatches) (first : Option (Bor Text)) → app ≡ account_app → IsCalled (codes "account") words
    → (is_simple_and_free app ≡ true → fault_of app words ≡ []) → HasMatchesOf app words m → option_map (λ s. s.now) first ≡ first_value (found_of m) (codes "address") → first ≡ None → ⊥
account_there app words m first app_is called faultless matches is none =
    there_of words m first called (rw app_is at (faultless (ap is_simple_and_free app_is ∙ account_simple))) (rw app_is at matches) is none

-- plain words after the name
rest_of : (rest : List Text) (address : Text) (password : Option Text) → list_all is_plain_word rest ≡ true → codes "account" ∷ rest ≡ account_words address password
    → (is_plain_word address ≡ true) × plain_password password
rest_of rest address None plain are =
    let all = subst (λ (l : List Text). list_all is_plain_word l ≡ true) (following (codes "account") rest (address ∷ []) are) plain in (first_plain address [] all, tt)
rest_of rest address (Some password) plain are =
    let all = subst (λ (l : List Text). list_all is_plain_word l ≡ true) (following (codes "account") rest (address ∷ password ∷ []) are) plain in
    (first_plain address (password ∷ []) all, first_plain password [] (rest_plain address (password ∷ []) all))

-- words that are refused aren't the name and one word or two
account_refused_words : (words : List Text) (e : Error) → IsCalled (codes "account") words → HasKind (fault_of account_app words) e → (kind_of e ≡ kind.OutOfMemory → ⊥)
    → (address : Text) (password : Option Text) → words ≡ account_words address password → ⊥
account_refused_words words e called refused other address password are =
    let plain = rest_of called.rest address password called.plain (sym called.words_are ∙ are) in
    taken_refused (fault_of account_app words) e (ap (fault_of account_app) are ∙ account_faultless address password plain.0 plain.1) refused other

pub account_refused : (app : App) (words : List Text) (e : Error) → app ≡ account_app → IsCalled (codes "account") words
    → (is_simple_and_free app ≡ true → HasKind (fault_of app words) e) → (kind_of e ≡ kind.OutOfMemory → ⊥)
    → (address : Text) (password : Option Text) → words ≡ account_words address password → ⊥
account_refused app words e app_is called refused other =
    account_refused_words words e called (rw app_is at (refused (ap is_simple_and_free app_is ∙ account_simple))) other
