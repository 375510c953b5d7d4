-- The text of a made Content-Type or Content-Transfer-Encoding opens an entity as the other one does.
use Rattle.std.proofs.Common.{◌≡◌, ℕ, Bool, true, false, if◌then◌else◌, inl, inr, List, codes, refl, sym, ap, ◌∙◌, subst}
use Rattle.std.proofs.lemmas.Slice.Eq.{bytes_eq-Decides}
use Rattle.std.specs.Str.{bytes_eq}
use Rattle.mail_wire.specs.Octets.{same_name}
use Rattle.utf8_fields.specs.Parts.{FieldParts, HasValue}
use Rattle.field_tokens.specs.Comments.{CommentValue}
use Rattle.param_grammar.specs.declared.ParamKind.TheVariants.{Content}
use Rattle.param_grammar.specs.Joining.{ParamValue, SaysParams}
use Rattle.param_2231.specs.ParamsReadBack.{served_main}
use Rattle.param_grammar.proofs.SaidParams.{SaysParams-once}
use Rattle.field_downgrade.specs.declared.kind.Kind.{Kind}
use Rattle.field_downgrade.specs.declared.kind.Kind.TheVariants.{Params, Plain}
use Rattle.field_downgrade.specs.Kinds.{kind_named}
use Rattle.field_downgrade.specs.PlainTexts.{SaysPlain}
use Rattle.field_downgrade.specs.Stands.{Meaning, Parameters, PlainText, Means, SaysAs, StandsForMeaning, IsMalformed, IsSameMeaning, is_encoding_name}
use Rattle.field_downgrade.proofs.OneMeaning.{HasValue-once}
use Rattle.field_downgrade.proofs.StructuredFields.{type_is_params, encoding_is_plain}
use Rattle.mime_tree.specs.declared.openings.Opening.{Opening}
use Rattle.mime_tree.specs.Openings.{opening_said, OpensByText, KeepsOctets}
use Rattle.surrogate_rope.proofs.EncodingLemmas.{said_alike, keeps_says}
use Rattle.surrogate_rope.proofs.NameLemmas.{is_encoding}
use Rattle.surrogate_rope.proofs.FieldPairs.{Keeps, KeepsParts, KeepsMeaning, KeepsFault}

-- what the value of a field of this kind says
said_as : (kind : Kind) (f : FieldParts) (value : List ℕ) (meaning : Meaning) → kind_named f.name ≡ kind → HasValue f.body value → Means f meaning → SaysAs kind f.name value meaning
said_as kind f value meaning e has means =
    subst (λ k. SaysAs k f.name value meaning) e (subst (λ v. SaysAs (kind_named f.name) f.name v meaning) (HasValue-once f.body means.value value means.has_value has) means.says)

-- ---- types

-- a main part and the one in its place open alike
served_opens : (open_global : Bool) (main : List ℕ) (params : List ParamValue) → opening_said main params ≡ opening_said (served_main open_global Content main) params
served_opens false main params = refl
served_opens true main params = by (bytes_eq main (codes "message/global")) refl
  where
    by : (is : Bool) → bytes_eq main (codes "message/global") ≡ is → opening_said main params ≡ opening_said (if is then codes "message/rfc822" else main) params
    by true e =
        let same : main ≡ codes "message/global" = (bytes_eq-Decides main (codes "message/global")).0 e in ap (λ m. opening_said m params) same
    by false e = refl

-- the texts say the same main part, as it is served, and the same parameters
pub record SayTypes (open_global : Bool) (text made : List ℕ) : Type 0 where
  pub main : List ℕ
  pub params : List ParamValue
  pub comments : List CommentValue
  pub says : SaysParams Content text main params comments
  pub made_says : SaysParams Content made (served_main open_global Content main) params comments

params_as : (text main other : List ℕ) (params others : List ParamValue) (comments more : List CommentValue) → Parameters main params comments ≡ Parameters other others more
    → SaysParams Content text main params comments → SaysParams Content text other others more
params_as text main other params others comments more e says =
    let mains : main ≡ other = cc e in
    let lists : params ≡ others = cc e in
    let said : comments ≡ more = cc e in
    subst (λ c. SaysParams Content text other others c) said (subst (λ p. SaysParams Content text other p comments) lists (subst (λ m. SaysParams Content text m params comments) mains says))

pub say_types : (open_global : Bool) (f g : FieldParts) (text made : List ℕ) → kind_named f.name ≡ Params Content → HasValue f.body text → HasValue g.body made → IsSameMeaning open_global f g
    → SayTypes open_global text made
say_types open_global f g text made kind has made_has same =
    let says : SaysAs (Params Content) f.name text same.meaning = said_as (Params Content) f text same.meaning kind has same.means in
    let made_says : SaysAs (Params Content) g.name made same.made_meaning = said_as (Params Content) g made same.made_meaning (ap kind_named same.name ∙ kind) made_has same.made_means in
    let stands : same.made_meaning ≡ Parameters (served_main open_global Content says.0) says.1 says.2
    = subst (λ (m : Meaning). StandsForMeaning open_global (Params Content) m same.made_meaning) says.3 (subst (λ (k : Kind). StandsForMeaning open_global k same.meaning same.made_meaning) kind same.stands) in
    record {
      main = says.0;
      params = says.1;
      comments = says.2;
      says = says.4;
      made_says = params_as made made_says.0 (served_main open_global Content says.0) made_says.1 says.1 made_says.2 says.2 (sym made_says.3 ∙ stands) made_says.4;
    }

said_opens : (open_global : Bool) (text made : List ℕ) (opening : Opening) → SayTypes open_global text made → OpensByText text opening → OpensByText made opening
said_opens open_global text made opening say (inl a) =
    let same = SaysParams-once Content text a.0 say.main a.1 say.params a.2 say.comments a.3 say.says in
    let e : opening ≡ opening_said say.main say.params = a.4 ∙ ap (λ m. opening_said m a.1) same.main ∙ ap (λ p. opening_said say.main p) same.params in
    inl (served_main open_global Content say.main, say.params, say.comments, say.made_says, e ∙ served_opens open_global say.main say.params)
said_opens open_global text made opening say (inr b) = absurd (b.0 say.main say.params say.comments say.says)

-- the value of a malformed type says no parameters
pub no_params : (f : FieldParts) (text : List ℕ) → kind_named f.name ≡ Params Content → HasValue f.body text → IsMalformed f
    → (main : List ℕ) (params : List ParamValue) (comments : List CommentValue) → ¬ (SaysParams Content text main params comments)
no_params f text kind has malformed main params comments says = malformed (Parameters main params comments) (record {
  value = text;
  has_value = has;
  says = subst (λ k. SaysAs k f.name text (Parameters main params comments)) (sym kind) (main, params, comments, refl, says);
})

fault_opens : (f g : FieldParts) (text made : List ℕ) (opening : Opening) → kind_named f.name ≡ Params Content → g.name ≡ f.name → HasValue f.body text → HasValue g.body made → IsMalformed f → IsMalformed g
    → OpensByText text opening → OpensByText made opening
fault_opens f g text made opening kind name has made_has malformed still (inl a) = absurd (no_params f text kind has malformed a.0 a.1 a.2 a.3)
fault_opens f g text made opening kind name has made_has malformed still (inr b) = inr (no_params g made (ap kind_named name ∙ kind) made_has still, b.1)

pub type_alike : (open_global : Bool) (f g : FieldParts) (text made : List ℕ) (opening : Opening) → same_name f.name (codes "Content-Type") ≡ true → HasValue f.body text → HasValue g.body made
    → Keeps open_global f g → OpensByText text opening → OpensByText made opening
type_alike open_global f g text made opening is has made_has (KeepsParts e) opens =
    let same : text ≡ made = HasValue-once f.body text made has (subst (λ (p : FieldParts). HasValue p.body made) e made_has) in
    subst (λ v. OpensByText v opening) same opens
type_alike open_global f g text made opening is has made_has (KeepsMeaning same) opens =
    said_opens open_global text made opening (say_types open_global f g text made (type_is_params f.name is) has made_has same) opens
type_alike open_global f g text made opening is has made_has (KeepsFault kept) opens =
    fault_opens f g text made opening (type_is_params f.name is) kept.name has made_has kept.malformed kept.still_malformed opens

-- ---- encodings

-- the texts say the same encoding
record SayEncodings (text made : List ℕ) : Type 0 where
  said : List ℕ
  comments : List CommentValue
  says : SaysPlain true text said comments
  made_says : SaysPlain true made said comments

plain_as : (text said other : List ℕ) (comments more : List CommentValue) → PlainText said comments ≡ PlainText other more → SaysPlain true text said comments → SaysPlain true text other more
plain_as text said other comments more e says =
    let texts : said ≡ other = cc e in
    let same : comments ≡ more = cc e in
    subst (λ c. SaysPlain true text other c) same (subst (λ s. SaysPlain true text s comments) texts says)

say_encodings : (open_global : Bool) (f g : FieldParts) (text made : List ℕ) → is_encoding_name f.name ≡ true → HasValue f.body text → HasValue g.body made → IsSameMeaning open_global f g
    → SayEncodings text made
say_encodings open_global f g text made is has made_has same =
    let kind : kind_named f.name ≡ Plain = encoding_is_plain f.name is in
    let made_is : is_encoding_name g.name ≡ true = ap is_encoding_name same.name ∙ is in
    let says : SaysAs Plain f.name text same.meaning = said_as Plain f text same.meaning kind has same.means in
    let made_says : SaysAs Plain g.name made same.made_meaning = said_as Plain g made same.made_meaning (ap kind_named same.name ∙ kind) made_has same.made_means in
    let stands : same.made_meaning ≡ PlainText says.0 says.1
    = subst (λ (m : Meaning). StandsForMeaning open_global Plain m same.made_meaning) says.2 (subst (λ (k : Kind). StandsForMeaning open_global k same.meaning same.made_meaning) kind same.stands) in
    record {
      said = says.0;
      comments = says.1;
      says = subst (λ b. SaysPlain b text says.0 says.1) is says.3;
      made_says = plain_as made made_says.0 says.0 made_says.1 says.1 (sym made_says.2 ∙ stands) (subst (λ b. SaysPlain b made made_says.0 made_says.1) made_is made_says.3);
    }

-- a malformed encoding doesn't keep the octets
malformed_changes : (f : FieldParts) (text : List ℕ) → is_encoding_name f.name ≡ true → HasValue f.body text → IsMalformed f → ¬ (KeepsOctets text)
malformed_changes f text is has malformed keeps =
    let s = keeps_says text keeps in
    malformed (PlainText s.0 s.1) (record {
      value = text;
      has_value = has;
      says = subst (λ k. SaysAs k f.name text (PlainText s.0 s.1)) (sym (encoding_is_plain f.name is)) (s.0, s.1, refl, subst (λ b. SaysPlain b text s.0 s.1) (sym is) s.2);
    })

pub encoding_alike : (open_global : Bool) (f g : FieldParts) (text made : List ℕ) → same_name f.name (codes "Content-Transfer-Encoding") ≡ true → HasValue f.body text → HasValue g.body made
    → Keeps open_global f g → (KeepsOctets text → KeepsOctets made) × (KeepsOctets made → KeepsOctets text)
encoding_alike open_global f g text made is has made_has (KeepsParts e) =
    let same : text ≡ made = HasValue-once f.body text made has (subst (λ (p : FieldParts). HasValue p.body made) e made_has) in
    (λ keeps. subst KeepsOctets same keeps, λ keeps. subst KeepsOctets (sym same) keeps)
encoding_alike open_global f g text made is has made_has (KeepsMeaning same) =
    let say = say_encodings open_global f g text made (is_encoding f.name is) has made_has same in
    (λ keeps. said_alike text made say.said say.comments say.says say.made_says keeps, λ keeps. said_alike made text say.said say.comments say.made_says say.says keeps)
encoding_alike open_global f g text made is has made_has (KeepsFault kept) = (
  λ keeps. absurd (malformed_changes f text (is_encoding f.name is) has kept.malformed keeps),
  λ keeps. absurd (malformed_changes g made (ap is_encoding_name kept.name ∙ is_encoding f.name is) made_has kept.still_malformed keeps),
)
