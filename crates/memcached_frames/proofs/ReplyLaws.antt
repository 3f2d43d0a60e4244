-- No reply begins another.
use Rattle.std.proofs.Common.{◌≡◌, ℕ, List, [], ◌∷◌, ◌++◌, length, drop, refl, sym, ap, ◌∙◌, arith, append_assoc}
use Rattle.memcached_frames.specs.declared.header.TheConstants.{FRAME_LEN, REPLY}
use Rattle.memcached_frames.specs.declared.header.Header.{Header}
use Rattle.memcached_frames.specs.declared.frame.Echo.{Echo}
use Rattle.memcached_frames.specs.declared.reply.FrameReply.{FrameReply}
use Rattle.memcached_frames.specs.Header.{header_in, header_text, IsHeader}
use Rattle.memcached_frames.specs.Replies.{parts_len, reply_header, reply_text, IsReply, IsEcho, IsOneReply}
use Rattle.memcached_frames.proofs.HeaderLaws.{one_header}

-- the parts of a reply, and what stands behind it
abbrev body_of : FrameReply → List ℕ → List ℕ
body_of reply more = reply.extras ++ (reply.key ++ (reply.value ++ more))

regroup : (echo : Echo) (reply : FrameReply) (more : List ℕ) → reply_text echo reply ++ more ≡ header_text REPLY (reply_header echo reply) ++ body_of reply more
unfolding reply_text
regroup echo reply more =
    let header = header_text REPLY (reply_header echo reply) in
    append_assoc header (reply.extras ++ (reply.key ++ reply.value)) more
    ∙ ap (λ text. header ++ text) (append_assoc reply.extras (reply.key ++ reply.value) more ∙ ap (λ text. reply.extras ++ text) (append_assoc reply.key reply.value more))

is_header : (echo : Echo) (reply : FrameReply) → IsEcho echo → IsReply reply → IsHeader (reply_header echo reply)
is_header echo reply is fits = record {
  opcode = is.opcode;
  key_len = fits.key;
  extras_len = fits.extras;
  status = fits.status;
  body_len = fits.body;
  opaque = is.opaque;
  unique = fits.unique;
}

behind : (header : Header) (more : List ℕ) → drop FRAME_LEN (header_text REPLY header ++ more) ≡ more
unfolding header_text
behind header more = refl

-- what stands at the front of equal bytes, and has one length
pub same_part : (a x b y : List ℕ) → length a ≡ length b → a ++ x ≡ b ++ y → (a ≡ b) × (x ≡ y)
same_part [] x b y len same = none b len same
  where
    none : (b : List ℕ) → 0 ≡ length b → x ≡ b ++ y → (◌≡◌ {A = List ℕ} [] b) × (x ≡ y)
    none [] len same = (refl, same)
    none (c ∷ b) len same = absurd (omega arith)
same_part (c ∷ a) x [] y len same = absurd (omega arith)
same_part (c ∷ a) x (d ∷ b) y len same =
    let head : c ≡ d = cc in
    let tail : a ++ x ≡ b ++ y = cc in
    let rest = same_part a x b y (omega arith) tail in
    (ap (λ h. h ∷ a) head ∙ ap (λ t. d ∷ t) rest.0, rest.1)

pub one_reply : IsOneReply
one_reply here there a b x y here_is there_is a_is b_is same =
    let whole = sym (regroup here a x) ∙ same ∙ regroup there b y in
    let header : reply_header here a ≡ reply_header there b =
    sym (one_header REPLY (reply_header here a) (body_of a x) (is_header here a here_is a_is)) ∙ ap header_in whole ∙ one_header REPLY (reply_header there b) (body_of b y) (is_header there b there_is b_is) in
    let bodies : body_of a x ≡ body_of b y = sym (behind (reply_header here a) (body_of a x)) ∙ ap (λ t. drop FRAME_LEN t) whole ∙ behind (reply_header there b) (body_of b y) in
    let opcode : here.opcode ≡ there.opcode = ap (λ (h : Header). h.opcode) header in
    let opaque : here.opaque ≡ there.opaque = ap (λ (h : Header). h.opaque) header in
    let status : a.status ≡ b.status = ap (λ (h : Header). h.status) header in
    let unique : a.unique ≡ b.unique = ap (λ (h : Header). h.unique) header in
    let extras_len : length a.extras ≡ length b.extras = ap (λ (h : Header). h.extras_len) header in
    let key_len : length a.key ≡ length b.key = ap (λ (h : Header). h.key_len) header in
    let body_len : parts_len a ≡ parts_len b = ap (λ (h : Header). h.body_len) header in
    let extras = same_part a.extras _ b.extras _ extras_len bodies in
    let keys = same_part a.key _ b.key _ key_len extras.1 in
    let values = same_part a.value x b.value y (omega (arith, extras_len, key_len, body_len)) keys.1 in
    let made : ℕ → ℕ → List ℕ → List ℕ → List ℕ → FrameReply = λ s u e k v. record { status = s; unique = u; extras = e; key = k; value = v } in
    let echoed : ℕ → ℕ → Echo = λ code word. record { opcode = code; opaque = word } in (
      ap (λ code. echoed code here.opaque) opcode ∙ ap (λ word. echoed there.opcode word) opaque,
      ap (λ s. made s a.unique a.extras a.key a.value) status ∙ ap (λ u. made b.status u a.extras a.key a.value) unique ∙ ap (λ e. made b.status b.unique e a.key a.value) extras.0
          ∙ ap (λ k. made b.status b.unique b.extras k a.value) keys.0 ∙ ap (λ v. made b.status b.unique b.extras b.key v) values.0,
      values.1,
    )
