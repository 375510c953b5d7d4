-- The two laws of a record: what is read is spelled so, and what is spelled so is read.
use Rattle.std.proofs.Common.{◌≡◌, ℕ, ◌^◌, ◌<◌, Bool, true, false, cond, eqb, List, [], ◌∷◌, ◌++◌, length, Some, None, refl, sym, ap, subst, ◌∙◌, append-nil, arith, inl, inr, ◌⊎◌}
use Rattle.std.specs.List.{flat_map}
use Rattle.std.proofs.lemmas.Bool.{eqb-true}
use Rattle.std.proofs.lemmas.List.{nil_from_length}
use Rattle.journal_records.specs.declared.records.Record.{Record}
use Rattle.journal_records.specs.declared.records.Record.TheVariants as records
use Rattle.journal_records.specs.Spelling.{number, octet_list, fields_of, record_text, Fits, IsWritableRecord}
use Rattle.journal_records.specs.private.Reading.{◌>>=◌, number_at, octet_at, list_at, lists_at, ended_fields, account_at, domain_at, folder_at, message_at, marked_message_at, flags_at, expunge_at, queue_at, marked_queue_at, settle_at, kind_at, record_at}
use Rattle.journal_records.proofs.FrameLemmas.{list_once}
use Rattle.journal_records.proofs.Fields.{AreOctets, AreOctets-rest, some_is, bind_some, guard_held, Takes, Takes-then, Takes-all, number_takes, number_again, octet_takes, list_takes, list_again, lists_take, lists_again}

pub none_is_some : (one : Record) → None ≡ Some one → ⊥
none_is_some one e = cc

-- the fields after a kind
pub record Spells (kind : ℕ) (octets : List ℕ) (one : Record) : Type 0 where
  pub text : kind ∷ octets ≡ fields_of one
  pub fits : Fits one

last : (octets text rest : List ℕ) (kind : ℕ) (made one : Record) → Takes octets text rest → ended_fields made rest ≡ Some one → kind ∷ text ≡ fields_of made → Fits made → Spells kind octets one
last octets text rest kind made one t e is fits =
    let g = guard_held (eqb (length rest) 0) made one e in
    let all : octets ≡ text = Takes-all octets text rest t (eqb-true _ _ g.0) in
    subst (λ (r : Record). Spells kind octets r) g.1 (record { text = ap (λ (x : List ℕ). kind ∷ x) all ∙ is; fits = fits })

account_takes : (octets : List ℕ) (one : Record) → AreOctets octets → account_at octets ≡ Some one → Spells 1 octets one
unfolding account_at
account_takes octets one fits e =
    let a = bind_some (list_at octets) (λ x. list_at x.1 >>= λ y. ended_fields (records.Account x.0 y.0) y.1) one e in
    let b = bind_some (list_at a.0.1) (λ y. ended_fields (records.Account a.0.0 y.0) y.1) one a.2 in
    let t0 = list_takes octets a.0.0 a.0.1 fits a.1 in
    let t1 = list_takes a.0.1 b.0.0 b.0.1 t0.0.rest_fits b.1 in
    let t = Takes-then octets (octet_list a.0.0) a.0.1 (octet_list b.0.0) b.0.1 t0.0 t1.0 in
    last octets (octet_list a.0.0 ++ octet_list b.0.0) b.0.1 1 (records.Account a.0.0 b.0.0) one t b.2 refl (t0.1, t1.1)

account_again : (address password : List ℕ) → Fits (records.Account address password) → account_at (octet_list address ++ octet_list password) ≡ Some (records.Account address password)
unfolding account_at
account_again address password fits =
    let second : list_at (octet_list password) ≡ Some (password, []) = ap list_at (sym (append-nil (octet_list password))) ∙ list_again password [] fits.1 in
    rw (list_again address (octet_list password) fits.0, second) refl

domain_takes : (octets : List ℕ) (one : Record) → AreOctets octets → domain_at octets ≡ Some one → Spells 2 octets one
unfolding domain_at
domain_takes octets one fits e =
    let a = bind_some (list_at octets) (λ x. ended_fields (records.Domain x.0) x.1) one e in
    let t0 = list_takes octets a.0.0 a.0.1 fits a.1 in
    last octets (octet_list a.0.0) a.0.1 2 (records.Domain a.0.0) one t0.0 a.2 refl t0.1

domain_again : (name : List ℕ) → Fits (records.Domain name) → domain_at (octet_list name) ≡ Some (records.Domain name)
unfolding domain_at
domain_again name fits =
    let first : list_at (octet_list name) ≡ Some (name, []) = ap list_at (sym (append-nil (octet_list name))) ∙ list_again name [] fits in
    rw first refl

folder_takes : (octets : List ℕ) (one : Record) → AreOctets octets → folder_at octets ≡ Some one → Spells 3 octets one
unfolding folder_at
folder_takes octets one fits e =
    let a = bind_some (number_at octets) (λ x. list_at x.1 >>= λ y. ended_fields (records.Folder x.0 y.0) y.1) one e in
    let b = bind_some (list_at a.0.1) (λ y. ended_fields (records.Folder a.0.0 y.0) y.1) one a.2 in
    let t0 = number_takes octets a.0.0 a.0.1 fits a.1 in
    let t1 = list_takes a.0.1 b.0.0 b.0.1 t0.0.rest_fits b.1 in
    let t = Takes-then octets (number a.0.0) a.0.1 (octet_list b.0.0) b.0.1 t0.0 t1.0 in
    last octets (number a.0.0 ++ octet_list b.0.0) b.0.1 3 (records.Folder a.0.0 b.0.0) one t b.2 refl (t0.1, t1.1)

folder_again : (account : ℕ) (name : List ℕ) → Fits (records.Folder account name) → folder_at (number account ++ octet_list name) ≡ Some (records.Folder account name)
unfolding folder_at
folder_again account name fits =
    let second : list_at (octet_list name) ≡ Some (name, []) = ap list_at (sym (append-nil (octet_list name))) ∙ list_again name [] fits.1 in
    rw (number_again account (octet_list name) fits.0, second) refl

message_takes : (octets : List ℕ) (one : Record) → AreOctets octets → message_at octets ≡ Some one → Spells 4 octets one
unfolding message_at
message_takes octets one fits e =
    let a = bind_some (number_at octets) (λ x. octet_at x.1 >>= λ y. list_at y.1 >>= λ z. list_at z.1 >>= λ w. ended_fields (records.Message x.0 y.0 None z.0 w.0) w.1) one e in
    let b = bind_some (octet_at a.0.1) (λ y. list_at y.1 >>= λ z. list_at z.1 >>= λ w. ended_fields (records.Message a.0.0 y.0 None z.0 w.0) w.1) one a.2 in
    let d = bind_some (list_at b.0.1) (λ z. list_at z.1 >>= λ w. ended_fields (records.Message a.0.0 b.0.0 None z.0 w.0) w.1) one b.2 in
    let f = bind_some (list_at d.0.1) (λ w. ended_fields (records.Message a.0.0 b.0.0 None d.0.0 w.0) w.1) one d.2 in
    let t0 = number_takes octets a.0.0 a.0.1 fits a.1 in
    let t1 = octet_takes a.0.1 b.0.0 b.0.1 t0.0.rest_fits b.1 in
    let t2 = list_takes b.0.1 d.0.0 d.0.1 t1.rest_fits d.1 in
    let t3 = list_takes d.0.1 f.0.0 f.0.1 t2.0.rest_fits f.1 in
    let t23 = Takes-then b.0.1 (octet_list d.0.0) d.0.1 (octet_list f.0.0) f.0.1 t2.0 t3.0 in
    let t13 = Takes-then a.0.1 (b.0.0 ∷ []) b.0.1 (octet_list d.0.0 ++ octet_list f.0.0) f.0.1 t1 t23 in
    let t = Takes-then octets (number a.0.0) a.0.1 (b.0.0 ∷ (octet_list d.0.0 ++ octet_list f.0.0)) f.0.1 t0.0 t13 in
    last octets (number a.0.0 ++ b.0.0 ∷ (octet_list d.0.0 ++ octet_list f.0.0)) f.0.1 4 (records.Message a.0.0 b.0.0 None d.0.0 f.0.0) one t f.2 refl (t0.1, t2.1, t3.1)

message_again : (folder flags : ℕ) (date text : List ℕ) → Fits (records.Message folder flags None date text)
    → message_at (number folder ++ flags ∷ (octet_list date ++ octet_list text)) ≡ Some (records.Message folder flags None date text)
unfolding message_at
message_again folder flags date text fits =
    let third : list_at (octet_list text) ≡ Some (text, []) = ap list_at (sym (append-nil (octet_list text))) ∙ list_again text [] fits.2 in
    rw (number_again folder (flags ∷ (octet_list date ++ octet_list text)) fits.0, list_again date (octet_list text) fits.1, third) refl

marked_message_takes : (octets : List ℕ) (one : Record) → AreOctets octets → marked_message_at octets ≡ Some one → Spells 9 octets one
unfolding marked_message_at
marked_message_takes octets one fits e =
    let a = bind_some (number_at octets) (λ x. octet_at x.1 >>= λ y. octet_at y.1 >>= λ m. list_at m.1 >>= λ z. list_at z.1 >>= λ w. ended_fields (records.Message x.0 y.0 (Some m.0) z.0 w.0) w.1) one e in
    let b = bind_some (octet_at a.0.1) (λ y. octet_at y.1 >>= λ m. list_at m.1 >>= λ z. list_at z.1 >>= λ w. ended_fields (records.Message a.0.0 y.0 (Some m.0) z.0 w.0) w.1) one a.2 in
    let m = bind_some (octet_at b.0.1) (λ m. list_at m.1 >>= λ z. list_at z.1 >>= λ w. ended_fields (records.Message a.0.0 b.0.0 (Some m.0) z.0 w.0) w.1) one b.2 in
    let d = bind_some (list_at m.0.1) (λ z. list_at z.1 >>= λ w. ended_fields (records.Message a.0.0 b.0.0 (Some m.0.0) z.0 w.0) w.1) one m.2 in
    let f = bind_some (list_at d.0.1) (λ w. ended_fields (records.Message a.0.0 b.0.0 (Some m.0.0) d.0.0 w.0) w.1) one d.2 in
    let t0 = number_takes octets a.0.0 a.0.1 fits a.1 in
    let t1 = octet_takes a.0.1 b.0.0 b.0.1 t0.0.rest_fits b.1 in
    let tm = octet_takes b.0.1 m.0.0 m.0.1 t1.rest_fits m.1 in
    let t2 = list_takes m.0.1 d.0.0 d.0.1 tm.rest_fits d.1 in
    let t3 = list_takes d.0.1 f.0.0 f.0.1 t2.0.rest_fits f.1 in
    let t23 = Takes-then m.0.1 (octet_list d.0.0) d.0.1 (octet_list f.0.0) f.0.1 t2.0 t3.0 in
    let tm3 = Takes-then b.0.1 (m.0.0 ∷ []) m.0.1 (octet_list d.0.0 ++ octet_list f.0.0) f.0.1 tm t23 in
    let t13 = Takes-then a.0.1 (b.0.0 ∷ []) b.0.1 (m.0.0 ∷ (octet_list d.0.0 ++ octet_list f.0.0)) f.0.1 t1 tm3 in
    let t = Takes-then octets (number a.0.0) a.0.1 (b.0.0 ∷ m.0.0 ∷ (octet_list d.0.0 ++ octet_list f.0.0)) f.0.1 t0.0 t13 in
    last octets (number a.0.0 ++ b.0.0 ∷ m.0.0 ∷ (octet_list d.0.0 ++ octet_list f.0.0)) f.0.1 9 (records.Message a.0.0 b.0.0 (Some m.0.0) d.0.0 f.0.0) one t f.2 refl (t0.1, t2.1, t3.1)

marked_message_again : (folder flags mark : ℕ) (date text : List ℕ) → Fits (records.Message folder flags (Some mark) date text)
    → marked_message_at (number folder ++ flags ∷ mark ∷ (octet_list date ++ octet_list text)) ≡ Some (records.Message folder flags (Some mark) date text)
unfolding marked_message_at
marked_message_again folder flags mark date text fits =
    let third : list_at (octet_list text) ≡ Some (text, []) = ap list_at (sym (append-nil (octet_list text))) ∙ list_again text [] fits.2 in
    rw (number_again folder (flags ∷ mark ∷ (octet_list date ++ octet_list text)) fits.0, list_again date (octet_list text) fits.1, third) refl

flags_takes : (octets : List ℕ) (one : Record) → AreOctets octets → flags_at octets ≡ Some one → Spells 5 octets one
unfolding flags_at
flags_takes octets one fits e =
    let a = bind_some (number_at octets) (λ x. octet_at x.1 >>= λ y. ended_fields (records.Flags x.0 y.0) y.1) one e in
    let b = bind_some (octet_at a.0.1) (λ y. ended_fields (records.Flags a.0.0 y.0) y.1) one a.2 in
    let t0 = number_takes octets a.0.0 a.0.1 fits a.1 in
    let t1 = octet_takes a.0.1 b.0.0 b.0.1 t0.0.rest_fits b.1 in
    let t = Takes-then octets (number a.0.0) a.0.1 (b.0.0 ∷ []) b.0.1 t0.0 t1 in
    last octets (number a.0.0 ++ b.0.0 ∷ []) b.0.1 5 (records.Flags a.0.0 b.0.0) one t b.2 refl t0.1

flags_by : (octets rest : List ℕ) (message flags : ℕ) → number_at octets ≡ Some (message, rest) → octet_at rest ≡ Some (flags, []) → flags_at octets ≡ Some (records.Flags message flags)
unfolding flags_at
flags_by octets rest message flags a b = rw (a, b) refl

flags_again : (message flags : ℕ) → Fits (records.Flags message flags) → flags_at (number message ++ flags ∷ []) ≡ Some (records.Flags message flags)
flags_again message flags fits = flags_by (number message ++ flags ∷ []) (flags ∷ []) message flags (number_again message (flags ∷ []) fits) refl

expunge_takes : (octets : List ℕ) (one : Record) → AreOctets octets → expunge_at octets ≡ Some one → Spells 6 octets one
unfolding expunge_at
expunge_takes octets one fits e =
    let a = bind_some (number_at octets) (λ x. ended_fields (records.Expunge x.0) x.1) one e in
    let t0 = number_takes octets a.0.0 a.0.1 fits a.1 in
    last octets (number a.0.0) a.0.1 6 (records.Expunge a.0.0) one t0.0 a.2 refl t0.1

number_alone : (n : ℕ) → n < 2 ^ 32 → number_at (number n) ≡ Some (n, [])
number_alone n lt = ap number_at (sym (append-nil (number n))) ∙ number_again n [] lt

expunge_by : (octets : List ℕ) (message : ℕ) → number_at octets ≡ Some (message, []) → expunge_at octets ≡ Some (records.Expunge message)
unfolding expunge_at
expunge_by octets message a = rw a refl

expunge_again : (message : ℕ) → Fits (records.Expunge message) → expunge_at (number message) ≡ Some (records.Expunge message)
expunge_again message fits = expunge_by (number message) message (number_alone message fits)

queue_takes : (octets : List ℕ) (one : Record) → AreOctets octets → queue_at octets ≡ Some one → Spells 7 octets one
unfolding queue_at
queue_takes octets one fits e =
    let a = bind_some (list_at octets) (λ x. number_at x.1 >>= λ y. lists_at y.0 y.1 >>= λ z. list_at z.1 >>= λ w. ended_fields (records.Queue x.0 z.0 None w.0) w.1) one e in
    let b = bind_some (number_at a.0.1) (λ y. lists_at y.0 y.1 >>= λ z. list_at z.1 >>= λ w. ended_fields (records.Queue a.0.0 z.0 None w.0) w.1) one a.2 in
    let d = bind_some (lists_at b.0.0 b.0.1) (λ z. list_at z.1 >>= λ w. ended_fields (records.Queue a.0.0 z.0 None w.0) w.1) one b.2 in
    let f = bind_some (list_at d.0.1) (λ w. ended_fields (records.Queue a.0.0 d.0.0 None w.0) w.1) one d.2 in
    let t0 = list_takes octets a.0.0 a.0.1 fits a.1 in
    let t1 = number_takes a.0.1 b.0.0 b.0.1 t0.0.rest_fits b.1 in
    let t2 = lists_take b.0.0 b.0.1 d.0 t1.0.rest_fits d.1 in
    let t3 = list_takes d.0.1 f.0.0 f.0.1 t2.0.rest_fits f.1 in
    let counted : Takes a.0.1 (number (length d.0.0)) b.0.1 = subst (λ (k : ℕ). Takes a.0.1 (number k) b.0.1) (sym t2.1) t1.0 in
    let t23 = Takes-then b.0.1 (flat_map octet_list d.0.0) d.0.1 (octet_list f.0.0) f.0.1 t2.0 t3.0 in
    let t13 = Takes-then a.0.1 (number (length d.0.0)) b.0.1 (flat_map octet_list d.0.0 ++ octet_list f.0.0) f.0.1 counted t23 in
    let t = Takes-then octets (octet_list a.0.0) a.0.1 (number (length d.0.0) ++ (flat_map octet_list d.0.0 ++ octet_list f.0.0)) f.0.1 t0.0 t13 in
    let few : length d.0.0 < 2 ^ 32 = omega (arith, t2.1, t1.1) in
    last octets (octet_list a.0.0 ++ (number (length d.0.0) ++ (flat_map octet_list d.0.0 ++ octet_list f.0.0))) f.0.1 7 (records.Queue a.0.0 d.0.0 None f.0.0) one t f.2 refl (t0.1, few, t2.2, t3.1)

queue_again : (path : List ℕ) (addresses : List (List ℕ)) (text : List ℕ) → Fits (records.Queue path addresses None text)
    → queue_at (octet_list path ++ (number (length addresses) ++ (flat_map octet_list addresses ++ octet_list text))) ≡ Some (records.Queue path addresses None text)
unfolding queue_at
queue_again path addresses text fits =
    let third : list_at (octet_list text) ≡ Some (text, []) = ap list_at (sym (append-nil (octet_list text))) ∙ list_again text [] fits.3 in
    rw (list_again path (number (length addresses) ++ (flat_map octet_list addresses ++ octet_list text)) fits.0, number_again (length addresses) (flat_map octet_list addresses ++ octet_list text) fits.1, lists_again addresses (octet_list text) fits.2, third) refl

marked_queue_takes : (octets : List ℕ) (one : Record) → AreOctets octets → marked_queue_at octets ≡ Some one → Spells 10 octets one
unfolding marked_queue_at
marked_queue_takes octets one fits e =
    let a = bind_some (list_at octets) (λ x. number_at x.1 >>= λ y. lists_at y.0 y.1 >>= λ z. octet_at z.1 >>= λ m. list_at m.1 >>= λ w. ended_fields (records.Queue x.0 z.0 (Some m.0) w.0) w.1) one e in
    let b = bind_some (number_at a.0.1) (λ y. lists_at y.0 y.1 >>= λ z. octet_at z.1 >>= λ m. list_at m.1 >>= λ w. ended_fields (records.Queue a.0.0 z.0 (Some m.0) w.0) w.1) one a.2 in
    let d = bind_some (lists_at b.0.0 b.0.1) (λ z. octet_at z.1 >>= λ m. list_at m.1 >>= λ w. ended_fields (records.Queue a.0.0 z.0 (Some m.0) w.0) w.1) one b.2 in
    let m = bind_some (octet_at d.0.1) (λ m. list_at m.1 >>= λ w. ended_fields (records.Queue a.0.0 d.0.0 (Some m.0) w.0) w.1) one d.2 in
    let f = bind_some (list_at m.0.1) (λ w. ended_fields (records.Queue a.0.0 d.0.0 (Some m.0.0) w.0) w.1) one m.2 in
    let t0 = list_takes octets a.0.0 a.0.1 fits a.1 in
    let t1 = number_takes a.0.1 b.0.0 b.0.1 t0.0.rest_fits b.1 in
    let t2 = lists_take b.0.0 b.0.1 d.0 t1.0.rest_fits d.1 in
    let tm = octet_takes d.0.1 m.0.0 m.0.1 t2.0.rest_fits m.1 in
    let t3 = list_takes m.0.1 f.0.0 f.0.1 tm.rest_fits f.1 in
    let counted : Takes a.0.1 (number (length d.0.0)) b.0.1 = subst (λ (k : ℕ). Takes a.0.1 (number k) b.0.1) (sym t2.1) t1.0 in
    let tm3 = Takes-then d.0.1 (m.0.0 ∷ []) m.0.1 (octet_list f.0.0) f.0.1 tm t3.0 in
    let t23 = Takes-then b.0.1 (flat_map octet_list d.0.0) d.0.1 (m.0.0 ∷ octet_list f.0.0) f.0.1 t2.0 tm3 in
    let t13 = Takes-then a.0.1 (number (length d.0.0)) b.0.1 (flat_map octet_list d.0.0 ++ m.0.0 ∷ octet_list f.0.0) f.0.1 counted t23 in
    let t = Takes-then octets (octet_list a.0.0) a.0.1 (number (length d.0.0) ++ (flat_map octet_list d.0.0 ++ m.0.0 ∷ octet_list f.0.0)) f.0.1 t0.0 t13 in
    let few : length d.0.0 < 2 ^ 32 = omega (arith, t2.1, t1.1) in
    last octets (octet_list a.0.0 ++ (number (length d.0.0) ++ (flat_map octet_list d.0.0 ++ m.0.0 ∷ octet_list f.0.0))) f.0.1 10 (records.Queue a.0.0 d.0.0 (Some m.0.0) f.0.0) one t f.2 refl (t0.1, few, t2.2, t3.1)

marked_queue_again : (path : List ℕ) (addresses : List (List ℕ)) (mark : ℕ) (text : List ℕ) → Fits (records.Queue path addresses (Some mark) text)
    → marked_queue_at (octet_list path ++ (number (length addresses) ++ (flat_map octet_list addresses ++ mark ∷ octet_list text))) ≡ Some (records.Queue path addresses (Some mark) text)
unfolding marked_queue_at
marked_queue_again path addresses mark text fits =
    let third : list_at (octet_list text) ≡ Some (text, []) = ap list_at (sym (append-nil (octet_list text))) ∙ list_again text [] fits.3 in
    rw (list_again path (number (length addresses) ++ (flat_map octet_list addresses ++ mark ∷ octet_list text)) fits.0, number_again (length addresses) (flat_map octet_list addresses ++ mark ∷ octet_list text) fits.1, lists_again addresses (mark ∷ octet_list text) fits.2, third) refl

version_takes : (octets : List ℕ) (one : Record) → ended_fields records.Version octets ≡ Some one → Spells 11 octets one
version_takes octets one e =
    let g = guard_held (eqb (length octets) 0) records.Version one e in
    let all : octets ≡ [] = nil_from_length octets (eqb-true _ _ g.0) in
    subst (λ (r : Record). Spells 11 octets r) g.1 (record { text = ap (λ (x : List ℕ). 11 ∷ x) all; fits = tt })

settle_takes : (octets : List ℕ) (one : Record) → AreOctets octets → settle_at octets ≡ Some one → Spells 8 octets one
unfolding settle_at
settle_takes octets one fits e =
    let a = bind_some (number_at octets) (λ x. number_at x.1 >>= λ y. ended_fields (records.Settle x.0 y.0) y.1) one e in
    let b = bind_some (number_at a.0.1) (λ y. ended_fields (records.Settle a.0.0 y.0) y.1) one a.2 in
    let t0 = number_takes octets a.0.0 a.0.1 fits a.1 in
    let t1 = number_takes a.0.1 b.0.0 b.0.1 t0.0.rest_fits b.1 in
    let t = Takes-then octets (number a.0.0) a.0.1 (number b.0.0) b.0.1 t0.0 t1.0 in
    last octets (number a.0.0 ++ number b.0.0) b.0.1 8 (records.Settle a.0.0 b.0.0) one t b.2 refl (t0.1, t1.1)

settle_by : (octets rest : List ℕ) (entry index : ℕ) → number_at octets ≡ Some (entry, rest) → number_at rest ≡ Some (index, []) → settle_at octets ≡ Some (records.Settle entry index)
unfolding settle_at
settle_by octets rest entry index a b = rw (a, b) refl

settle_again : (entry index : ℕ) → Fits (records.Settle entry index) → settle_at (number entry ++ number index) ≡ Some (records.Settle entry index)
settle_again entry index fits = settle_by (number entry ++ number index) (number index) entry index (number_again entry (number index) fits.0) (number_alone index fits.1)

-- which way a test went
chosen : {A : Type 0} (b : Bool) (x y z : A) → cond b x y ≡ z → ((b ≡ true) × (x ≡ z)) ⊎ ((b ≡ false) × (y ≡ z))
chosen true x y z e = inl (refl, e)
chosen false x y z e = inr (refl, e)

-- the kind of a test that held
of_kind : (kind k : ℕ) (octets : List ℕ) (one : Record) → eqb kind k ≡ true → Spells k octets one → Spells kind octets one
of_kind kind k octets one e s = subst (λ (n : ℕ). Spells n octets one) (sym (eqb-true kind k e)) s

pub kind_takes : (kind : ℕ) (octets : List ℕ) (one : Record) → AreOctets octets → kind_at kind octets ≡ Some one → Spells kind octets one
unfolding kind_at
kind_takes kind octets one fits e =
    elim (chosen (eqb kind 1) _ _ _ e) [
      | inl h ↦ of_kind kind 1 octets one h.0 (account_takes octets one fits h.1)
      | inr h1 ↦ elim (chosen (eqb kind 2) _ _ _ h1.1) [
        | inl h ↦ of_kind kind 2 octets one h.0 (domain_takes octets one fits h.1)
        | inr h2 ↦ elim (chosen (eqb kind 3) _ _ _ h2.1) [
          | inl h ↦ of_kind kind 3 octets one h.0 (folder_takes octets one fits h.1)
          | inr h3 ↦ elim (chosen (eqb kind 4) _ _ _ h3.1) [
            | inl h ↦ of_kind kind 4 octets one h.0 (message_takes octets one fits h.1)
            | inr h4 ↦ elim (chosen (eqb kind 5) _ _ _ h4.1) [
              | inl h ↦ of_kind kind 5 octets one h.0 (flags_takes octets one fits h.1)
              | inr h5 ↦ elim (chosen (eqb kind 6) _ _ _ h5.1) [
                | inl h ↦ of_kind kind 6 octets one h.0 (expunge_takes octets one fits h.1)
                | inr h6 ↦ elim (chosen (eqb kind 7) _ _ _ h6.1) [
                  | inl h ↦ of_kind kind 7 octets one h.0 (queue_takes octets one fits h.1)
                  | inr h7 ↦ elim (chosen (eqb kind 8) _ _ _ h7.1) [
                    | inl h ↦ of_kind kind 8 octets one h.0 (settle_takes octets one fits h.1)
                    | inr h8 ↦ elim (chosen (eqb kind 9) _ _ _ h8.1) [
                      | inl h ↦ of_kind kind 9 octets one h.0 (marked_message_takes octets one fits h.1)
                      | inr h9 ↦ elim (chosen (eqb kind 10) _ _ _ h9.1) [
                        | inl h ↦ of_kind kind 10 octets one h.0 (marked_queue_takes octets one fits h.1)
                        | inr h10 ↦ elim (chosen (eqb kind 11) _ _ _ h10.1) [
                          | inl h ↦ of_kind kind 11 octets one h.0 (version_takes octets one h.1)
                          | inr h11 ↦ absurd (none_is_some one h11.1)
                        ]
                      ]
                    ]
                  ]
                ]
              ]
            ]
          ]
        ]
      ]
    ]

-- what is read is spelled so
pub record_takes : (octets : List ℕ) (one : Record) → AreOctets octets → record_at octets ≡ Some one → (octets ≡ fields_of one) × Fits one
unfolding record_at
record_takes [] one fits e = absurd (none_is_some one e)
record_takes (kind ∷ octets) one fits e =
    let s = kind_takes kind octets one (AreOctets-rest kind octets fits) e in
    (s.text, s.fits)

-- what is spelled so is read
pub record_again : (one : Record) → Fits one → record_at (fields_of one) ≡ Some one
unfolding record_at kind_at
record_again (records.Account address password) fits = account_again address password fits
record_again (records.Domain name) fits = domain_again name fits
record_again (records.Folder account name) fits = folder_again account name fits
record_again (records.Message folder flags None date text) fits = message_again folder flags date text fits
record_again (records.Message folder flags (Some mark) date text) fits = marked_message_again folder flags mark date text fits
record_again (records.Flags message flags) fits = flags_again message flags fits
record_again (records.Expunge message) fits = expunge_again message fits
record_again (records.Queue path addresses None text) fits = queue_again path addresses text fits
record_again (records.Queue path addresses (Some mark) text) fits = marked_queue_again path addresses mark text fits
record_again (records.Settle entry index) fits = settle_again entry index fits
record_again records.Version fits = refl

-- ---- records told apart

-- each record has a kind
pub some_fields : (one : Record) → 0 < length (fields_of one)
some_fields (records.Account address password) = omega arith
some_fields (records.Domain name) = omega arith
some_fields (records.Folder account name) = omega arith
some_fields (records.Message folder flags None date octets) = omega arith
some_fields (records.Message folder flags (Some mark) date octets) = omega arith
some_fields (records.Flags message flags) = omega arith
some_fields (records.Expunge message) = omega arith
some_fields (records.Queue path addresses None octets) = omega arith
some_fields (records.Queue path addresses (Some mark) octets) = omega arith
some_fields (records.Settle entry index) = omega arith
some_fields records.Version = omega arith

-- fields are those of one record at most
pub fields_once : (a b : Record) → Fits a → Fits b → fields_of a ≡ fields_of b → a ≡ b
fields_once a b p q e = some_is a b (sym (record_again a p) ∙ ap record_at e ∙ record_again b q)

-- octets begin with one record at most
pub record_once : (a b : Record) (x y : List ℕ) → IsWritableRecord a → IsWritableRecord b → record_text a ++ x ≡ record_text b ++ y → (a ≡ b) × (x ≡ y)
record_once a b x y p q e =
    let both = list_once (fields_of a) (fields_of b) x y (omega (arith, p.1)) (omega (arith, q.1)) e in
    (fields_once a b p.0 q.0 both.0, both.1)
