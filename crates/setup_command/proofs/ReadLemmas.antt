-- What the commands of `clap` read after their names.
use Rattle.std.proofs.Common.{ap, ap₂, refl, codes, true, List, ℕ, Option, Some, None, [], ◌∷◌, ◌≡◌, ◌∙◌}
use Rattle.clap.specs.Walk.{Row, Text, Held, first_of, nothing_held, reading_by, walk, walked, walk_from, finished}
use Rattle.clap.specs.declared.parser.matches.ValueSource.TheVariants.{CommandLine}
use Rattle.clap.specs.Faults.{fault_of, is_simple_and_free, walk_fault}
use Rattle.clap.specs.Simple.{is_simple, built, matches_of}
use Rattle.clap.specs.declared.error.kind.ErrorKind.TheVariants as kind
use Rattle.clap.proofs.OnLiterals.{clap_on_literals}
use Rattle.setup_command.specs.private.Apps.{word_rule, domain_app, account_app, account_words}
use Rattle.setup_command.specs.PlainWords.{is_plain_word}
use Rattle.setup_command.proofs.ClapLemmas.{turned, faults_on, faults_by, standing}

-- ---- one argument

pub domain_simple : is_simple_and_free domain_app ≡ true
unfolding clap_on_literals
domain_simple = refl

pub domain_is_simple : is_simple domain_app ≡ true
unfolding clap_on_literals
domain_is_simple = refl

pub domain_none : fault_of domain_app (codes "domain" ∷ []) ≡ kind.MissingRequiredArgument ∷ []
unfolding clap_on_literals
domain_none = refl

abbrev one_held : List ℕ → List ℕ → Held
one_held id word = record { rows = []; pending = Some (id, word ∷ []); skip = 0 }

domain_read : (word : Text) → faults_by (built domain_app) (standing (one_held (codes "domain") word) 2) [] ≡ []
unfolding clap_on_literals
domain_read word = refl

pub domain_one : (word : Text) → is_plain_word word ≡ true → fault_of domain_app (codes "domain" ∷ word ∷ []) ≡ []
unfolding walk_fault
domain_one word plain =
    ap₂ (faults_by (built domain_app)) (turned (built domain_app).top.rules nothing_held 1 word plain) (faults_on (built domain_app).top nothing_held 1 word [] plain)
    ∙ domain_read word

domain_stray : (word next : Text) (more : List Text) → is_plain_word next ≡ true
    → walk_fault (built domain_app).top [] (standing (one_held (codes "domain") word) 2) (next ∷ more) ≡ kind.UnknownArgument ∷ []
domain_stray word next more plain = faults_on (built domain_app).top (one_held (codes "domain") word) 2 next more plain

pub domain_more : (word next : Text) (more : List Text) → is_plain_word word ≡ true → is_plain_word next ≡ true
    → fault_of domain_app (codes "domain" ∷ word ∷ next ∷ more) ≡ kind.UnknownArgument ∷ []
domain_more word next more plain also =
    ap (faults_by (built domain_app) (walk (built domain_app).top.rules [] nothing_held (word ∷ next ∷ more)))
    (faults_on (built domain_app).top nothing_held 1 word (next ∷ more) plain ∙ domain_stray word next more also)

domain_found : (word : Text) → first_of (codes "domain") (finished (built domain_app).top.rules (one_held (codes "domain") word)) ≡ Some word
unfolding clap_on_literals
domain_found word = refl

-- the value is the one word
pub domain_value : (word : Text) → is_plain_word word ≡ true → first_of (codes "domain") (matches_of domain_app (codes "domain" ∷ word ∷ [])) ≡ Some word
domain_value word plain =
    ap (λ w. first_of (codes "domain") (finished (built domain_app).top.rules w.held)) (turned (built domain_app).top.rules nothing_held 1 word plain) ∙ domain_found word

-- ---- one argument, and one that may be missing

pub account_simple : is_simple_and_free account_app ≡ true
unfolding clap_on_literals
account_simple = refl

pub account_is_simple : is_simple account_app ≡ true
unfolding clap_on_literals
account_is_simple = refl

pub account_none : fault_of account_app (codes "account" ∷ []) ≡ kind.MissingRequiredArgument ∷ []
unfolding clap_on_literals
account_none = refl

-- the row of an argument with its word
abbrev row : List ℕ → List ℕ → Row
row id word = record { id = id; values = word ∷ []; count = None; source = Some CommandLine; reading = reading_by (word_rule id) }

abbrev two_held : List ℕ → List ℕ → Held
two_held address password = record { rows = row (codes "address") address ∷ []; pending = Some (codes "password", password ∷ []); skip = 0 }

account_read_one : (address : Text) → faults_by (built account_app) (standing (one_held (codes "address") address) 2) [] ≡ []
unfolding clap_on_literals
account_read_one address = refl

account_one : (address : Text) → is_plain_word address ≡ true → fault_of account_app (codes "account" ∷ address ∷ []) ≡ []
unfolding walk_fault
account_one address plain =
    ap₂ (faults_by (built account_app)) (turned (built account_app).top.rules nothing_held 1 address plain) (faults_on (built account_app).top nothing_held 1 address [] plain)
    ∙ account_read_one address

account_walk : (address password : Text) → is_plain_word address ≡ true → is_plain_word password ≡ true
    → walk (built account_app).top.rules [] nothing_held (address ∷ password ∷ []) ≡ standing (two_held address password) 3
account_walk address password plain also =
    ap (λ w. walked (built account_app).top.rules [] w password) (turned (built account_app).top.rules nothing_held 1 address plain)
    ∙ turned (built account_app).top.rules (one_held (codes "address") address) 2 password also

account_walk_fault : (address password : Text) → is_plain_word address ≡ true → is_plain_word password ≡ true
    → walk_fault (built account_app).top [] (walk_from nothing_held) (address ∷ password ∷ []) ≡ []
unfolding walk_fault
account_walk_fault address password plain also =
    faults_on (built account_app).top nothing_held 1 address (password ∷ []) plain
    ∙ faults_on (built account_app).top (one_held (codes "address") address) 2 password [] also

account_read : (address password : Text) → faults_by (built account_app) (standing (two_held address password) 3) [] ≡ []
unfolding clap_on_literals
account_read address password = refl

account_two : (address password : Text) → is_plain_word address ≡ true → is_plain_word password ≡ true → fault_of account_app (codes "account" ∷ address ∷ password ∷ []) ≡ []
account_two address password plain also =
    ap₂ (faults_by (built account_app)) (account_walk address password plain also) (account_walk_fault address password plain also) ∙ account_read address password

account_stray : (address password next : Text) (more : List Text) → is_plain_word next ≡ true
    → walk_fault (built account_app).top [] (standing (two_held address password) 3) (next ∷ more) ≡ kind.UnknownArgument ∷ []
account_stray address password next more plain = faults_on (built account_app).top (two_held address password) 3 next more plain

pub account_more : (address password next : Text) (more : List Text) → is_plain_word address ≡ true → is_plain_word password ≡ true → is_plain_word next ≡ true
    → fault_of account_app (codes "account" ∷ address ∷ password ∷ next ∷ more) ≡ kind.UnknownArgument ∷ []
account_more address password next more plain also third =
    ap (faults_by (built account_app) (walk (built account_app).top.rules [] nothing_held (address ∷ password ∷ next ∷ more)))
    (faults_on (built account_app).top nothing_held 1 address (password ∷ next ∷ more) plain
    ∙ (faults_on (built account_app).top (one_held (codes "address") address) 2 password (next ∷ more) also ∙ account_stray address password next more third))

account_found : (address password : Text) → first_of (codes "address") (finished (built account_app).top.rules (two_held address password)) ≡ Some address
unfolding clap_on_literals
account_found address password = refl

account_found_password : (address password : Text) → first_of (codes "password") (finished (built account_app).top.rules (two_held address password)) ≡ Some password
unfolding clap_on_literals
account_found_password address password = refl

account_found_one : (address : Text) → first_of (codes "address") (finished (built account_app).top.rules (one_held (codes "address") address)) ≡ Some address
unfolding clap_on_literals
account_found_one address = refl

account_lacks : (address : Text) → first_of (codes "password") (finished (built account_app).top.rules (one_held (codes "address") address)) ≡ None
unfolding clap_on_literals
account_lacks address = refl

-- there is a password where this passes
abbrev pub plain_password : Option Text → Type 0
plain_password None = Unit {0}
plain_password (Some password) = is_plain_word password ≡ true

pub account_faultless : (address : Text) (password : Option Text) → is_plain_word address ≡ true → plain_password password → fault_of account_app (account_words address password) ≡ []
account_faultless address None plain also = account_one address plain
account_faultless address (Some password) plain also = account_two address password plain also

-- the values are the word, or the two words
pub account_address_found : (address : Text) (password : Option Text) → is_plain_word address ≡ true → plain_password password
    → first_of (codes "address") (matches_of account_app (account_words address password)) ≡ Some address
account_address_found address None plain also =
    ap (λ w. first_of (codes "address") (finished (built account_app).top.rules w.held)) (turned (built account_app).top.rules nothing_held 1 address plain) ∙ account_found_one address
account_address_found address (Some password) plain also =
    ap (λ w. first_of (codes "address") (finished (built account_app).top.rules w.held)) (account_walk address password plain also) ∙ account_found address password

pub account_password_found : (address : Text) (password : Option Text) → is_plain_word address ≡ true → plain_password password
    → first_of (codes "password") (matches_of account_app (account_words address password)) ≡ password
account_password_found address None plain also =
    ap (λ w. first_of (codes "password") (finished (built account_app).top.rules w.held)) (turned (built account_app).top.rules nothing_held 1 address plain) ∙ account_lacks address
account_password_found address (Some password) plain also =
    ap (λ w. first_of (codes "password") (finished (built account_app).top.rules w.held)) (account_walk address password plain also) ∙ account_found_password address password
