-- Octets begin with the same replies, however they are divided.
use Rattle.std.proofs.Common.{◌≡◌, ℕ, List, [], ◌∷◌, ◌++◌, length, drop, refl, sym, ap, subst, ◌∙◌, arith, append_assoc}
use Rattle.std.specs.List.{AllZip, concat}
use Rattle.std.proofs.lemmas.List.{drop_at, length-append, take_at}
use Rattle.relay_choice.specs.Replies.{IsReply, IsReplyRead}
use Rattle.relay_choice.specs.declared.replies.Reply.{Reply}
use Rattle.relay_choice.specs.declared.replies.ReplyRead.TheVariants as read
use Rattle.relay_choice.proofs.ReplyReads.{read_once}
use Rattle.relay_session.specs.Streams.{AreAllReplies, AreReplies}

pub same_whole : (reply other : Reply) (used count : ℕ) → read.Whole reply used ≡ read.Whole other count → reply ≡ other
same_whole reply other used count same = cc

same_used : (reply other : Reply) (used count : ℕ) → read.Whole reply used ≡ read.Whole other count → used ≡ count
same_used reply other used count same = cc

read_first : (text more octets : List ℕ) (reply : Reply) → octets ≡ text ++ more → IsReply text reply → IsReplyRead octets (read.Whole reply (length text))
read_first text more octets reply whole is =
    let count = length-append text more in
    subst (λ (l : List ℕ). IsReplyRead l (read.Whole reply (length text))) (sym whole)
    (omega (arith, count), subst (λ (l : List ℕ). IsReply l reply) (sym (take_at text more (length text) refl)) is)

-- the first reply of two divisions
record SameFirst (text other following rest : List ℕ) (reply one : Reply) : Type 0 where
  replies : reply ≡ one
  rests : following ≡ rest

same_first : (text other following rest : List ℕ) (reply one : Reply) → text ++ following ≡ other ++ rest → IsReply text reply → IsReply other one → SameFirst text other following rest reply one
same_first text other following rest reply one same is are =
    let octets = text ++ following in
    let found = read_once octets (read.Whole reply (length text)) (read.Whole one (length other)) (read_first text following octets reply refl is) (read_first other rest octets one same are) in
    let long : length other ≡ length text = sym (same_used reply one (length text) (length other) found) in
    record {
      replies = same_whole reply one (length text) (length other) found;
      rests = sym (drop_at text following (length text) refl) ∙ ap (λ (l : List ℕ). drop (length text) l) same ∙ drop_at other rest (length text) long;
    }

-- replies with octets after them are the first of all
front_of_all : (texts others : List (List ℕ)) (replies all : List Reply) (more following : List ℕ) → AllZip IsReply texts replies → AllZip IsReply others all → concat texts ++ more ≡ concat others ++ following
    → ((text rest : List ℕ) (reply : Reply) → following ≡ text ++ rest → IsReply text reply → ⊥) → (left : List Reply) × (all ≡ replies ++ left)
front_of_all [] others [] all more following are every same none = (all, refl)
front_of_all [] others (reply ∷ replies) all more following are every same none = absurd are
front_of_all (text ∷ texts) others [] all more following are every same none = absurd are
front_of_all (text ∷ texts) [] (reply ∷ replies) [] more following are every same none = absurd (none text (concat texts ++ more) reply (sym same ∙ append_assoc text (concat texts) more) are.0)
front_of_all (text ∷ texts) [] (reply ∷ replies) (one ∷ all) more following are every same none = absurd every
front_of_all (text ∷ texts) (other ∷ others) (reply ∷ replies) [] more following are every same none = absurd every
front_of_all (text ∷ texts) (other ∷ others) (reply ∷ replies) (one ∷ all) more following are every same none =
    let first = same_first text other (concat texts ++ more) (concat others ++ following) reply one (sym (append_assoc text (concat texts) more) ∙ same ∙ append_assoc other (concat others) following) are.0 every.0 in
    let found = front_of_all texts others replies all more following are.1 every.1 first.rests none in
    (found.0, ap (λ (l : List Reply). one ∷ l) found.1 ∙ ap (λ (r : Reply). r ∷ (replies ++ found.0)) (sym first.replies))

-- the replies that were taken are the first of all that are sent
pub replies_front : (octets taken rest : List ℕ) (replies all : List Reply) (following : List ℕ) → octets ≡ taken ++ rest → AreReplies taken replies following → AreAllReplies octets all
    → (left : List Reply) × (all ≡ replies ++ left)
replies_front octets taken rest replies all following whole are every =
    front_of_all are.texts every.are.texts replies all (following ++ rest) every.following are.are every.are.are
    (sym (append_assoc (concat are.texts) following rest) ∙ ap (λ (l : List ℕ). l ++ rest) (sym are.whole) ∙ sym whole ∙ every.are.whole) every.none
