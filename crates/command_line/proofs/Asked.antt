-- Words have a meaning exactly where they ask for it by what is written.
use Rattle.std.proofs.Common.{◌≡◌, ◌≢◌, ◌⊎◌, inl, inr, ◌<◌, ◌≤◌, ◌^◌, ◌==◌, ◌/◌, ◌%◌, ◌++◌, ℕ, Bool, true, false, cond, List, [], ◌∷◌, length, get_or, Option, Some, None, refl, sym, ap, ◌∙◌, subst, arith, append_assoc, decimal, codes, All, Contains, Decides, bytes_eq}
use Rattle.std.specs.Prelude.{if◌then◌else◌, nat_le, nat_lt, unwrap_or}
use Rattle.std.specs.Char.{is_ascii_digit}
use Rattle.std.specs.List.{AllByRecursion, list_any, list_all, before_first, after_first}
use Rattle.std.specs.Option.{option_map}
use Rattle.std.specs.Str.Parse.{digits_value}
use Rattle.std.proofs.lemmas.Bool.{true≢false, and_parts, leb-true, le-leb, ltb-true, cond_both}
use Rattle.std.proofs.lemmas.Bool.Decides.{Decides-by_and, Decides-by_or, Decides-like}
use Rattle.std.proofs.lemmas.Fmt.{digits_decimal, digits_value-decimal, decimal-digits_value, first_decimal, decimal_nonempty}
use Rattle.std.proofs.lemmas.Grind.{common_steps}
use Rattle.std.proofs.lemmas.List.{get_or_default}
use Rattle.std.proofs.lemmas.Option.{none-some, same_Some, cond_some}
use Rattle.std.proofs.lemmas.Slice.Eq.{bytes_eq-Decides}
use Rattle.net_base.specs.Address.{decimal as byte_digits, ip4_text}
use Rattle.net_base.specs.AddressReading.{◌>>=◌, ip4_of}
use Rattle.net_base.proofs.Addresses.{ip4_again, ip4_ok}
use Rattle.command_line.specs.declared.meaning.Command.{Command}
use Rattle.command_line.specs.declared.meaning.Command.TheVariants as commands
use Rattle.command_line.specs.declared.meaning.Job.{Job}
use Rattle.command_line.specs.declared.meaning.Job.TheVariants as jobs
use Rattle.command_line.specs.declared.meaning.SentOn.{SentOn}
use Rattle.command_line.specs.declared.meaning.ServeOptions.{ServeOptions}
use Rattle.command_line.specs.declared.parts.CommandOption.{CommandOption}
use Rattle.command_line.specs.declared.parts.Parts.{Parts}
use Rattle.command_line.specs.declared.recorded.RecordedServe.{RecordedServe}
use Rattle.command_line.specs.declared.values.Listen.{Listen}
use Rattle.command_line.specs.Asked.{StandOnce, AreWritten, StandsBehind, StandsOrIs, Spells, SpellsFrame, SpellsListen, SaysEvents, SaysReload, SaysListen, SayHowToServe, AskFor, Check, Plan, Replay, Serve, Gauge, GaugeServe, Bench, Trace, Walk, Bgp, BgpServe, AskToRecord}
use Rattle.command_line.specs.Meaning.{command_of, options_of, are_taken, one_of, two_of, three_of, events_of, listen_or, serve_options, sent_by, sent_on, job_of, meaning}
use Rattle.command_line.specs.Frames.{frame_of}
use Rattle.command_line.specs.Parts.{parts_of}
use Rattle.command_line.specs.Recorded.{recorded_options, are_recorded_options, recorded_serve, recorded_meaning}
use Rattle.command_line.specs.Values.{is_numeral, number_in, is_colon, address_and_port, listen_of, value_of}
use Rattle.command_line.specs.Written.{Written}
use Rattle.command_line.proofs.Digits.{frame_spelled, frame_again}
use Rattle.command_line.proofs.Grammar.{bound, what_is_parted, what_is_written}
use Rattle.command_line.proofs.Marks.{before_mark, after_mark, has_mark, split_mark}
use Rattle.command_line.proofs.Numerals.{own, all_digits, is_there}
use Rattle.command_line.proofs.Once.{same_text, once, distinct, stands, none_stands, found}

-- what a test lets through
tested : {A : Type 0} (b : Bool) (o : Option A) (x : A) → cond b o None ≡ Some x → (b ≡ true) × (o ≡ Some x)
tested true o x e = (refl, e)
tested false o x e = absurd (none-some x e)

-- ---- numbers

no_zero_first : (text : List ℕ) → is_numeral text ≡ true → get_or text 0 0 ≡ 48 → length text ≡ 1
no_zero_first [] is zero = absurd (true≢false (sym is))
no_zero_first (d ∷ ds) is zero = grind (arith, common_steps, is, zero)

numeral_from : (text : List ℕ) → 0 < length text → 48 < get_or text 0 0 → list_all is_ascii_digit text ≡ true → is_numeral text ≡ true
numeral_from [] some above all = absurd (omega (arith, some))
numeral_from (d ∷ ds) some above all = let other : (d == 48) ≡ false = grind (arith, common_steps, above) in rw other all

spelled : (least most : ℕ) (text : List ℕ) (n : ℕ) → most < 2 ^ 64 → number_in least most text ≡ Some n → Spells least most text n
spelled least most text n small e =
    let read = cond_some _ _ _ e in
    let first = and_parts (is_numeral text) _ read.0 in
    let range = and_parts (nat_le least (digits_value 10 text)) (nat_le (digits_value 10 text) most) first.1 in
    let low = leb-true least (digits_value 10 text) range.0 in
    let high = leb-true (digits_value 10 text) most range.1 in
    let again = decimal-digits_value own text (all_digits text first.0) (is_there text first.0) (no_zero_first text first.0) (omega (arith, high, small)) in
    record {
      digits = sym again ∙ ap decimal read.1;
      at_least = subst (λ (m : ℕ). least ≤ m) read.1 low;
      at_most = subst (λ (m : ℕ). m ≤ most) read.1 high;
    }

read_again : (least most n : ℕ) → 0 < least → most < 2 ^ 64 → least ≤ n → n ≤ most → number_in least most (decimal n) ≡ Some n
read_again least most n some small low high =
    let fits : n < 2 ^ 64 = omega (arith, high, small) in
    let is : is_numeral (decimal n) ≡ true = numeral_from (decimal n) (decimal_nonempty n fits) (first_decimal n (omega (arith, some, low)) fits) (digits_decimal own n fits) in
    let value : digits_value 10 (decimal n) ≡ n = digits_value-decimal own n fits in
    rw (is, value, le-leb least n low, le-leb n most high) refl

pub read : (least most : ℕ) (text : List ℕ) (n : ℕ) → 0 < least → most < 2 ^ 64 → Spells least most text n → number_in least most text ≡ Some n
read least most text n some small is = ap (number_in least most) is.digits ∙ read_again least most n some small is.at_least is.at_most

-- ---- addresses with ports

no_colon_number : (n : ℕ) → n < 256 → AllByRecursion (λ c. c ≢ 58) (byte_digits n)
no_colon_number n small =
    cond_both (nat_lt n 10) _ _ (AllByRecursion (λ c. c ≢ 58)) (λ is. let below = ltb-true n 10 is in ((λ e. omega (arith, below, e)), tt))
    (λ no. cond_both (nat_lt n 100) _ _ (AllByRecursion (λ c. c ≢ 58)) (λ is. let below = ltb-true n 100 is in ((λ e. omega (arith, below, e)), ((λ e. omega (arith, e)), tt)))
    (λ no. ((λ e. omega (arith, small, e)), ((λ e. omega (arith, e)), ((λ e. omega (arith, e)), tt)))))

all_append : (P : ℕ → Type 0) (xs ys : List ℕ) → AllByRecursion P xs → AllByRecursion P ys → AllByRecursion P (xs ++ ys)
all_append P [] ys first second = second
all_append P (x ∷ xs) ys first second = (first.0, all_append P xs ys first.1 second)

no_colon : (ip : ℕ) → ip < 2 ^ 32 → AllByRecursion (λ c. c ≢ 58) (ip4_text ip)
no_colon ip small =
    all_append _ (byte_digits (ip / 2 ^ 24)) _ (no_colon_number (ip / 2 ^ 24) (omega (arith, small))) (
      (λ e. omega (arith, e)),
      all_append _ (byte_digits (ip / 2 ^ 16 % 256)) _ (no_colon_number (ip / 2 ^ 16 % 256) (omega arith)) (
        (λ e. omega (arith, e)),
        all_append _ (byte_digits (ip / 2 ^ 8 % 256)) _ (no_colon_number (ip / 2 ^ 8 % 256) (omega arith)) ((λ e. omega (arith, e)), no_colon_number (ip % 256) (omega arith)),
      ),
    )

listen_spelled : (text : List ℕ) (listen : Listen) → listen_of text ≡ Some listen → SpellsListen text listen
listen_spelled text listen e =
    let cut = tested (list_any is_colon text) (address_and_port (before_first is_colon text) (after_first is_colon text)) listen e in
    let address = bound (ip4_of (before_first is_colon text)) _ listen cut.1 in
    let port = bound (number_in 1 65535 (after_first is_colon text)) _ listen address.2 in
    let is = ip4_ok (before_first is_colon text) address.0 address.1 in
    let digits = spelled 1 65535 (after_first is_colon text) port.0 (omega arith) port.1 in
    subst (SpellsListen text) (same_Some _ _ port.2) (record {
      written = split_mark 58 text cut.0 ∙ ap (λ front. front ++ 58 ∷ after_first is_colon text) is.0 ∙ ap (λ back. ip4_text address.0 ++ 58 ∷ back) digits.digits
          ∙ sym (append_assoc (ip4_text address.0) (codes ":") (decimal port.0));
      address = is.1;
      port_at_least = digits.at_least;
      port_at_most = digits.at_most;
    })

cut_again : (front back : List ℕ) → AllByRecursion (λ c. c ≢ 58) front → listen_of (front ++ 58 ∷ back) ≡ address_and_port front back
cut_again front back all = rw (has_mark 58 front back, before_mark 58 front back all, after_mark 58 front back all) refl

listen_again : (text : List ℕ) (listen : Listen) → SpellsListen text listen → listen_of text ≡ Some listen
listen_again text listen is =
    let digits : Spells 1 65535 (decimal listen.port) listen.port = record { digits = refl; at_least = is.port_at_least; at_most = is.port_at_most } in
    ap listen_of (is.written ∙ append_assoc (ip4_text listen.ip.0) (codes ":") (decimal listen.port)) ∙ cut_again (ip4_text listen.ip.0) (decimal listen.port) (no_colon listen.ip.0 is.address)
    ∙ rw (ip4_again listen.ip.0 is.address, read 1 65535 (decimal listen.port) listen.port (omega arith) (omega arith) digits) refl

-- ---- which options are taken

listed : (names : List (List ℕ)) (name : List ℕ) → Decides (list_any (λ listed. bytes_eq listed name) names) (Contains names name)
listed names name =
    Decides-like {Q = Contains names name} (list_any (λ listed. bytes_eq listed name) names)
    (λ at. (at.0, at.1, at.2 name))
    (λ at. (at.0, at.1, λ d. get_or_default names at.0 d name at.1 ∙ at.2))
    (Decides-by_or (λ listed. bytes_eq listed name) (λ listed. listed ≡ name) (list_any (λ listed. bytes_eq listed name)) (λ listed. bytes_eq-Decides listed name) refl (λ _ _. refl) names)

taken : (names : List (List ℕ)) (options : List CommandOption)
    → Decides (list_all (λ o. list_any (λ name. bytes_eq name o.name) names) options) (All (λ o. Contains names o.name) options)
taken names options =
    Decides-by_and (λ (o : CommandOption). list_any (λ name. bytes_eq name o.name) names) (λ (o : CommandOption). Contains names o.name)
    (list_all (λ o. list_any (λ name. bytes_eq name o.name) names)) (λ o. listed names o.name) refl (λ _ _. refl) options

none_taken : (options : List CommandOption) → list_all (λ o. false) options ≡ true → options ≡ []
none_taken [] e = refl
none_taken (o ∷ others) e = absurd (true≢false (sym e))

-- ---- what stands behind a name, or the default

or_default : (options : List CommandOption) (name default : List ℕ) → StandsOrIs options name default (unwrap_or (value_of name options) default)
or_default options name default = by (value_of name options) refl
  where
    by : (value : Option (List ℕ)) → value_of name options ≡ value → StandsOrIs options name default (unwrap_or value default)
    by (Some value) e = inl (stands name value options e)
    by None e = inr ((λ other. none_stands name other options e), refl)

nothing_found : (options : List CommandOption) (name : List ℕ) → ((other : List ℕ) → StandsBehind options name other → ⊥) → value_of name options ≡ None
nothing_found options name none = by (value_of name options) refl
  where
    by : (value : Option (List ℕ)) → value_of name options ≡ value → value_of name options ≡ None
    by (Some value) e = absurd (none value (stands name value options e))
    by None e = e

by_default : (options : List CommandOption) (name default text : List ℕ) → StandOnce options → StandsOrIs options name default text
    → unwrap_or (value_of name options) default ≡ text
by_default options name default text all (inl at) = rw (found name text options all at) refl
by_default options name default text all (inr none) = rw (nothing_found options name none.0) (sym none.1)

-- ---- what options say

events_said : (options : List CommandOption) (events : ℕ) → events_of options ≡ Some events → SaysEvents options events
events_said options events e =
    let text = bound (value_of (codes "events") options) (number_in 1 1000000000) events e in
    (text.0, stands (codes "events") text.0 options text.1, spelled 1 1000000000 text.0 events (omega arith) text.2)

events_read : (options : List CommandOption) (events : ℕ) → StandOnce options → SaysEvents options events → events_of options ≡ Some events
events_read options events all (text, at, is) =
    ap (λ value. value >>= number_in 1 1000000000) (found (codes "events") text options all at) ∙ read 1 1000000000 text events (omega arith) (omega arith) is

reload_said : (options : List CommandOption) (reload_ms : ℕ) → number_in 100 3600000 (unwrap_or (value_of (codes "reload-ms") options) (codes "1000")) ≡ Some reload_ms → SaysReload options reload_ms
reload_said options reload_ms e =
    (unwrap_or (value_of (codes "reload-ms") options) (codes "1000"), or_default options (codes "reload-ms") (codes "1000"), spelled 100 3600000 _ reload_ms (omega arith) e)

reload_read : (options : List CommandOption) (reload_ms : ℕ) → StandOnce options → SaysReload options reload_ms
    → number_in 100 3600000 (unwrap_or (value_of (codes "reload-ms") options) (codes "1000")) ≡ Some reload_ms
reload_read options reload_ms all (text, at, is) =
    ap (number_in 100 3600000) (by_default options (codes "reload-ms") (codes "1000") text all at) ∙ read 100 3600000 text reload_ms (omega arith) (omega arith) is

listen_said : (default : List ℕ) (options : List CommandOption) (listen : Listen) → listen_or default options ≡ Some listen → SaysListen default options listen
listen_said default options listen e =
    (unwrap_or (value_of (codes "listen") options) default, or_default options (codes "listen") default, listen_spelled (unwrap_or (value_of (codes "listen") options) default) listen e)

listen_read : (default : List ℕ) (options : List CommandOption) (listen : Listen) → StandOnce options → SaysListen default options listen → listen_or default options ≡ Some listen
listen_read default options listen all (text, at, is) = ap listen_of (by_default options (codes "listen") default text all at) ∙ listen_again text listen is

serve_said : (options : List CommandOption) (said : ServeOptions) → serve_options options ≡ Some said → SayHowToServe options said
serve_said options said e =
    let events = bound (events_of options) _ said e in
    let reload = bound (number_in 100 3600000 (unwrap_or (value_of (codes "reload-ms") options) (codes "1000"))) _ said events.2 in
    let listen = bound (listen_or (codes "127.0.0.1:6653") options) _ said reload.2 in
    subst (SayHowToServe options) (same_Some _ _ listen.2) (record {
      events = events_said options events.0 events.1;
      reload_ms = reload_said options reload.0 reload.1;
      listen = listen_said (codes "127.0.0.1:6653") options listen.0 listen.1;
    })

serve_read : (options : List CommandOption) (said : ServeOptions) → StandOnce options → SayHowToServe options said → serve_options options ≡ Some said
serve_read options said all is =
    rw (events_read options said.events all is.events, reload_read options said.reload_ms all is.reload_ms, listen_read (codes "127.0.0.1:6653") options said.listen all is.listen) refl

-- ---- plain words

one_word : (plain : List (List ℕ)) (only : List ℕ) → one_of plain ≡ Some only → plain ≡ only ∷ []
one_word [] only e = absurd (none-some only e)
one_word (first ∷ []) only e = ap (λ word. word ∷ []) (same_Some _ _ e)
one_word (first ∷ second ∷ others) only e = absurd (none-some only e)

two_words : (plain : List (List ℕ)) (two : List ℕ × List ℕ) → two_of plain ≡ Some two → plain ≡ two.0 ∷ two.1 ∷ []
two_words [] two e = absurd (none-some two e)
two_words (first ∷ []) two e = absurd (none-some two e)
two_words (first ∷ second ∷ []) two e = ap (λ (t : List ℕ × List ℕ). t.0 ∷ t.1 ∷ []) (same_Some _ _ e)
two_words (first ∷ second ∷ third ∷ others) two e = absurd (none-some two e)

three_words : (plain : List (List ℕ)) (three : List ℕ × List ℕ × List ℕ) → three_of plain ≡ Some three → plain ≡ three.0 ∷ three.1 ∷ three.2 ∷ []
three_words [] three e = absurd (none-some three e)
three_words (a ∷ []) three e = absurd (none-some three e)
three_words (a ∷ b ∷ []) three e = absurd (none-some three e)
three_words (a ∷ b ∷ c ∷ []) three e = ap (λ (t : List ℕ × List ℕ × List ℕ). t.0 ∷ t.1 ∷ t.2 ∷ []) (same_Some _ _ e)
three_words (a ∷ b ∷ c ∷ d ∷ others) three e = absurd (none-some three e)

-- five words, of which the fourth spells a port and the fifth a frame
record FiveWords (plain : List (List ℕ)) (sent : SentOn) : Type 0 where
  port : List ℕ
  digits : List ℕ
  words : plain ≡ sent.config ∷ sent.recording ∷ sent.dp ∷ port ∷ digits ∷ []
  is_port : Spells 1 0xffffff00 port sent.port
  is_frame : SpellsFrame digits sent.frame

by_words : (config recording dp port digits : List ℕ) (sent : SentOn) → sent_by config recording dp port digits ≡ Some sent
    → FiveWords (config ∷ recording ∷ dp ∷ port ∷ digits ∷ []) sent
by_words config recording dp port digits sent e =
    let number = bound (number_in 1 0xffffff00 port) _ sent e in
    let frame = bound (frame_of digits) _ sent number.2 in
    subst (FiveWords (config ∷ recording ∷ dp ∷ port ∷ digits ∷ [])) (same_Some _ _ frame.2) (record {
      port = port;
      digits = digits;
      words = refl;
      is_port = spelled 1 0xffffff00 port number.0 (omega arith) number.1;
      is_frame = frame_spelled digits frame.0 frame.1;
    })

five_words : (plain : List (List ℕ)) (sent : SentOn) → sent_on plain ≡ Some sent → FiveWords plain sent
five_words [] sent e = absurd (none-some sent e)
five_words (a ∷ []) sent e = absurd (none-some sent e)
five_words (a ∷ b ∷ []) sent e = absurd (none-some sent e)
five_words (a ∷ b ∷ c ∷ []) sent e = absurd (none-some sent e)
five_words (a ∷ b ∷ c ∷ d ∷ []) sent e = absurd (none-some sent e)
five_words (config ∷ recording ∷ dp ∷ port ∷ digits ∷ []) sent e = by_words config recording dp port digits sent e
five_words (a ∷ b ∷ c ∷ d ∷ e' ∷ f ∷ others) sent e = absurd (none-some sent e)

five_again : (config recording dp port digits : List ℕ) (number : ℕ) (frame : List ℕ) → Spells 1 0xffffff00 port number → SpellsFrame digits frame
    → sent_by config recording dp port digits ≡ Some (record { config = config; recording = recording; dp = dp; port = number; frame = frame })
five_again config recording dp port digits number frame is_port is_frame =
    rw (read 1 0xffffff00 port number (omega arith) (omega arith) is_port, frame_again digits frame is_frame) refl

mapped : {A B : Type 0} (f : A → B) (o : Option A) (y : B) → option_map f o ≡ Some y → (x : A) × (o ≡ Some x) × (f x ≡ y)
mapped f None y e = absurd (none-some y e)
mapped f (Some x) y e = (x, refl, same_Some (f x) y e)

-- ---- from a meaning

-- the parts of the words behind a command
parts_from : (words : List (List ℕ)) (test : List CommandOption → Bool) (f : Parts → Option Job) (job : Job)
    → (parts_of words >>= λ parts. if test parts.options then f parts else None) ≡ Some job
    → (parts : Parts) × (parts_of words ≡ Some parts) × (test parts.options ≡ true) × (f parts ≡ Some job)
parts_from words test f job e =
    let parts = bound (parts_of words) _ job e in
    let both = tested (test parts.0.options) (f parts.0) job parts.2 in
    (parts.0, parts.1, both.0, both.1)

-- what a command asks for, by the words behind it
abbrev pub asked_of : Command → List (List ℕ) → Option Job
asked_of command words = parts_of words >>= λ parts. if are_taken command parts.options then job_of command parts else None

without_options : (words : List (List ℕ)) (parts : Parts) → parts_of words ≡ Some parts → list_all (λ o. false) parts.options ≡ true → Written words parts.plain []
without_options words parts e none = subst (Written words parts.plain) (none_taken parts.options none) (what_is_parted words parts e).0

asks_two : (words : List (List ℕ)) (parts : Parts) (f : List ℕ × List ℕ → Job) (job : Job)
    → parts_of words ≡ Some parts → list_all (λ o. false) parts.options ≡ true → option_map f (two_of parts.plain) ≡ Some job
    → (two : List ℕ × List ℕ) × Written words (two.0 ∷ two.1 ∷ []) [] × (f two ≡ job)
asks_two words parts f job e none is =
    let two = mapped f (two_of parts.plain) job is in
    (two.0, subst (λ plain. Written words plain []) (two_words parts.plain two.0 two.1) (without_options words parts e none), two.2)

asks_plain : (words names : List (List ℕ)) (parts : Parts) (plain : List (List ℕ)) → parts_of words ≡ Some parts
    → list_all (λ o. list_any (λ name. bytes_eq name o.name) names) parts.options ≡ true → parts.plain ≡ plain → AreWritten names words plain parts.options
asks_plain words names parts plain e all is =
    let written = what_is_parted words parts e in
    record {
      written = subst (λ plain. Written words plain parts.options) is written.0;
      named = (taken names parts.options).0 all;
      once = once parts.options written.1;
    }

asks_with : (words names : List (List ℕ)) (parts : Parts) (config : List ℕ) → parts_of words ≡ Some parts
    → list_all (λ o. list_any (λ name. bytes_eq name o.name) names) parts.options ≡ true → one_of parts.plain ≡ Some config → AreWritten names words (config ∷ []) parts.options
asks_with words names parts config e all is = asks_plain words names parts (config ∷ []) e all (one_word parts.plain config is)

asks_check : (words : List (List ℕ)) (job : Job) → asked_of commands.Check words ≡ Some job → AskFor (codes "check" ∷ words) job
asks_check words job e =
    let parts = parts_from words (are_taken commands.Check) (job_of commands.Check) job e in
    by parts.0.plain (without_options words parts.0 parts.1 parts.2) parts.3
  where
    by : (plain : List (List ℕ)) → Written words plain [] → job_of commands.Check (record { plain = plain; options = [] }) ≡ Some job → AskFor (codes "check" ∷ words) job
    by [] is e = absurd (none-some job e)
    by (file ∷ files) is e = subst (AskFor (codes "check" ∷ words)) (same_Some _ _ e) (Check words (file ∷ files) (λ none. grind arith) is)

asks_plan : (words : List (List ℕ)) (job : Job) → asked_of commands.Plan words ≡ Some job → AskFor (codes "plan" ∷ words) job
asks_plan words job e =
    let parts = parts_from words (are_taken commands.Plan) (job_of commands.Plan) job e in
    let two = asks_two words parts.0 (λ two. jobs.Plan two.0 two.1) job parts.1 parts.2 parts.3 in
    subst (AskFor (codes "plan" ∷ words)) two.2 (Plan words two.0.0 two.0.1 two.1)

asks_replay : (words : List (List ℕ)) (job : Job) → asked_of commands.Replay words ≡ Some job → AskFor (codes "replay" ∷ words) job
asks_replay words job e =
    let parts = parts_from words (are_taken commands.Replay) (job_of commands.Replay) job e in
    let two = asks_two words parts.0 (λ two. jobs.Replay two.0 two.1) job parts.1 parts.2 parts.3 in
    subst (AskFor (codes "replay" ∷ words)) two.2 (Replay words two.0.0 two.0.1 two.1)

asks_gauge : (words : List (List ℕ)) (job : Job) → asked_of commands.Gauge words ≡ Some job → AskFor (codes "gauge" ∷ words) job
asks_gauge words job e =
    let parts = parts_from words (are_taken commands.Gauge) (job_of commands.Gauge) job e in
    let two = asks_two words parts.0 (λ two. jobs.Gauge two.0 two.1) job parts.1 parts.2 parts.3 in
    subst (AskFor (codes "gauge" ∷ words)) two.2 (Gauge words two.0.0 two.0.1 two.1)

asks_serve : (words : List (List ℕ)) (job : Job) → asked_of commands.Serve words ≡ Some job → AskFor (codes "serve" ∷ words) job
asks_serve words job e =
    let parts = parts_from words (are_taken commands.Serve) (job_of commands.Serve) job e in
    let config = bound (one_of parts.0.plain) _ job parts.3 in
    let said = bound (serve_options parts.0.options) _ job config.2 in
    let written = asks_with words (options_of commands.Serve) parts.0 config.0 parts.1 parts.2 config.1 in
    subst (AskFor (codes "serve" ∷ words)) (same_Some _ _ said.2) (Serve words config.0 parts.0.options said.0 written (serve_said parts.0.options said.0 said.1))

asks_gauge_serve : (words : List (List ℕ)) (job : Job) → asked_of commands.GaugeServe words ≡ Some job → AskFor (codes "gauge-serve" ∷ words) job
asks_gauge_serve words job e =
    let parts = parts_from words (are_taken commands.GaugeServe) (job_of commands.GaugeServe) job e in
    let config = bound (one_of parts.0.plain) _ job parts.3 in
    let events = bound (events_of parts.0.options) _ job config.2 in
    let listen = bound (listen_or (codes "127.0.0.1:6654") parts.0.options) _ job events.2 in
    let written = asks_with words (options_of commands.GaugeServe) parts.0 config.0 parts.1 parts.2 config.1 in
    subst (AskFor (codes "gauge-serve" ∷ words)) (same_Some _ _ listen.2)
    (GaugeServe words config.0 parts.0.options events.0 listen.0 written (events_said parts.0.options events.0 events.1) (listen_said (codes "127.0.0.1:6654") parts.0.options listen.0 listen.1))

asks_bench : (words : List (List ℕ)) (job : Job) → asked_of commands.Bench words ≡ Some job → AskFor (codes "bench" ∷ words) job
asks_bench words job e =
    let parts = parts_from words (are_taken commands.Bench) (job_of commands.Bench) job e in
    let text = bound (one_of parts.0.plain) (λ word. option_map jobs.Bench (number_in 1 10000 word)) job parts.3 in
    let hosts = mapped jobs.Bench (number_in 1 10000 text.0) job text.2 in
    let written = subst (λ plain. Written words plain []) (one_word parts.0.plain text.0 text.1) (without_options words parts.0 parts.1 parts.2) in
    subst (AskFor (codes "bench" ∷ words)) hosts.2 (Bench words text.0 hosts.0 written (spelled 1 10000 text.0 hosts.0 (omega arith) hosts.1))

asks_trace : (words : List (List ℕ)) (job : Job) → asked_of commands.Trace words ≡ Some job → AskFor (codes "trace" ∷ words) job
asks_trace words job e =
    let parts = parts_from words (are_taken commands.Trace) (job_of commands.Trace) job e in
    let sent = mapped (λ (sent : SentOn). jobs.Trace sent.config sent.recording sent.dp sent.port sent.frame) (sent_on parts.0.plain) job parts.3 in
    let five = five_words parts.0.plain sent.0 sent.1 in
    let written = subst (λ plain. Written words plain []) five.words (without_options words parts.0 parts.1 parts.2) in
    subst (AskFor (codes "trace" ∷ words)) sent.2 (Trace words sent.0.config sent.0.recording sent.0.dp five.port five.digits sent.0.port sent.0.frame written five.is_port five.is_frame)

asks_walk : (words : List (List ℕ)) (job : Job) → asked_of commands.Walk words ≡ Some job → AskFor (codes "walk" ∷ words) job
asks_walk words job e =
    let parts = parts_from words (are_taken commands.Walk) (job_of commands.Walk) job e in
    let sent = mapped (λ (sent : SentOn). jobs.Walk sent.config sent.recording sent.dp sent.port sent.frame) (sent_on parts.0.plain) job parts.3 in
    let five = five_words parts.0.plain sent.0 sent.1 in
    let written = subst (λ plain. Written words plain []) five.words (without_options words parts.0 parts.1 parts.2) in
    subst (AskFor (codes "walk" ∷ words)) sent.2 (Walk words sent.0.config sent.0.recording sent.0.dp five.port five.digits sent.0.port sent.0.frame written five.is_port five.is_frame)

asks_bgp : (words : List (List ℕ)) (job : Job) → asked_of commands.Bgp words ≡ Some job → AskFor (codes "bgp" ∷ words) job
asks_bgp words job e =
    let parts = parts_from words (are_taken commands.Bgp) (job_of commands.Bgp) job e in
    let three = mapped (λ (three : List ℕ × List ℕ × List ℕ). jobs.Bgp three.0 three.1 three.2) (three_of parts.0.plain) job parts.3 in
    let written = subst (λ plain. Written words plain []) (three_words parts.0.plain three.0 three.1) (without_options words parts.0 parts.1 parts.2) in
    subst (AskFor (codes "bgp" ∷ words)) three.2 (Bgp words three.0.0 three.0.1 three.0.2 written)

asks_bgp_serve : (words : List (List ℕ)) (job : Job) → asked_of commands.BgpServe words ≡ Some job → AskFor (codes "bgp-serve" ∷ words) job
asks_bgp_serve words job e =
    let parts = parts_from words (are_taken commands.BgpServe) (job_of commands.BgpServe) job e in
    let two = bound (two_of parts.0.plain) _ job parts.3 in
    let events = bound (events_of parts.0.options) _ job two.2 in
    let listen = bound (listen_or (codes "127.0.0.1:9179") parts.0.options) _ job events.2 in
    let written = asks_plain words (options_of commands.BgpServe) parts.0 (two.0.0 ∷ two.0.1 ∷ []) parts.1 parts.2 (two_words parts.0.plain two.0 two.1) in
    subst (AskFor (codes "bgp-serve" ∷ words)) (same_Some _ _ listen.2)
    (BgpServe words two.0.0 two.0.1 parts.0.options events.0 listen.0 written (events_said parts.0.options events.0 events.1) (listen_said (codes "127.0.0.1:9179") parts.0.options listen.0 listen.1))

-- one word of a table, or one of the rest
first_or : (word name : List ℕ) (command : Command) (rest : Option Command) (found : Command) → cond (bytes_eq word name) (Some command) rest ≡ Some found
    → ((word ≡ name) × (command ≡ found)) ⊎ (rest ≡ Some found)
first_or word name command rest found e = by (bytes_eq word name) refl e
  where
    by : (is : Bool) → bytes_eq word name ≡ is → cond is (Some command) rest ≡ Some found → ((word ≡ name) × (command ≡ found)) ⊎ (rest ≡ Some found)
    by true is e = inl (same_text word name is, same_Some _ _ e)
    by false is e = inr e

-- what the command of a word asks for
abbrev Asks : List ℕ → Command → Type 0
Asks word command = (words : List (List ℕ)) (job : Job) → asked_of command words ≡ Some job → AskFor (word ∷ words) job

here : (word name : List ℕ) (command found : Command) → Asks name command → (word ≡ name) × (command ≡ found) → Asks word found
here word name command found asks is = subst (Asks word) is.1 (subst (λ w. Asks w command) (sym is.0) asks)

asks_by : (word : List ℕ) (command : Command) → command_of word ≡ Some command → Asks word command
asks_by word command e = elim (first_or word (codes "check") commands.Check _ command e) [
  | inl is ↦ here word (codes "check") commands.Check command asks_check is
  | inr e ↦ elim (first_or word (codes "plan") commands.Plan _ command e) [
    | inl is ↦ here word (codes "plan") commands.Plan command asks_plan is
    | inr e ↦ elim (first_or word (codes "replay") commands.Replay _ command e) [
      | inl is ↦ here word (codes "replay") commands.Replay command asks_replay is
      | inr e ↦ elim (first_or word (codes "serve") commands.Serve _ command e) [
        | inl is ↦ here word (codes "serve") commands.Serve command asks_serve is
        | inr e ↦ elim (first_or word (codes "gauge") commands.Gauge _ command e) [
          | inl is ↦ here word (codes "gauge") commands.Gauge command asks_gauge is
          | inr e ↦ elim (first_or word (codes "gauge-serve") commands.GaugeServe _ command e) [
            | inl is ↦ here word (codes "gauge-serve") commands.GaugeServe command asks_gauge_serve is
            | inr e ↦ elim (first_or word (codes "bench") commands.Bench _ command e) [
              | inl is ↦ here word (codes "bench") commands.Bench command asks_bench is
              | inr e ↦ elim (first_or word (codes "trace") commands.Trace _ command e) [
                | inl is ↦ here word (codes "trace") commands.Trace command asks_trace is
                | inr e ↦ elim (first_or word (codes "walk") commands.Walk _ command e) [
                  | inl is ↦ here word (codes "walk") commands.Walk command asks_walk is
                  | inr e ↦ elim (first_or word (codes "bgp") commands.Bgp _ command e) [
                    | inl is ↦ here word (codes "bgp") commands.Bgp command asks_bgp is
                    | inr e ↦ elim (first_or word (codes "bgp-serve") commands.BgpServe None command e) [
                      | inl is ↦ here word (codes "bgp-serve") commands.BgpServe command asks_bgp_serve is
                      | inr e ↦ absurd (none-some command e)
                    ]
                  ]
                ]
              ]
            ]
          ]
        ]
      ]
    ]
  ]
]

pub asked : (words : List (List ℕ)) (job : Job) → meaning words ≡ Some job → AskFor words job
unfolding meaning
asked [] job e = absurd (none-some job e)
asked (word ∷ words) job e = let command = bound (command_of word) (λ command. asked_of command words) job e in asks_by word command.0 command.1 words job command.2

-- ---- to a meaning

plain_parts : (words plain : List (List ℕ)) → Written words plain [] → parts_of words ≡ Some (record { plain = plain; options = [] })
plain_parts words plain is = what_is_written words (record { plain = plain; options = [] }) is refl

with_parts : (names words plain : List (List ℕ)) (options : List CommandOption) → AreWritten names words plain options
    → (parts_of words ≡ Some (record { plain = plain; options = options })) × (list_all (λ o. list_any (λ name. bytes_eq name o.name) names) options ≡ true)
with_parts names words plain options is =
    (what_is_written words (record { plain = plain; options = options }) is.written (distinct options is.once), (taken names options).1 is.named)

meant_plain : (command : Command) (words plain : List (List ℕ)) → options_of command ≡ [] → Written words plain [] → asked_of command words ≡ job_of command (record { plain = plain; options = [] })
meant_plain command words plain none is = rw (plain_parts words plain is) refl

meant_check : (words files : List (List ℕ)) → files ≢ [] → Written words files [] → asked_of commands.Check words ≡ Some (jobs.Check files)
meant_check words [] some is = absurd (some refl)
meant_check words (file ∷ files) some is = meant_plain commands.Check words (file ∷ files) refl is

meant_serve : (words : List (List ℕ)) (config : List ℕ) (options : List CommandOption) (said : ServeOptions)
    → AreWritten (options_of commands.Serve) words (config ∷ []) options → SayHowToServe options said
    → asked_of commands.Serve words ≡ Some (jobs.Serve config said.events said.reload_ms said.listen)
meant_serve words config options said is how =
    let parts = with_parts (options_of commands.Serve) words (config ∷ []) options is in
    rw (parts.0, parts.1, serve_read options said is.once how) refl

meant_gauge_serve : (words : List (List ℕ)) (config : List ℕ) (options : List CommandOption) (events : ℕ) (listen : Listen)
    → AreWritten (options_of commands.GaugeServe) words (config ∷ []) options → SaysEvents options events → SaysListen (codes "127.0.0.1:6654") options listen
    → asked_of commands.GaugeServe words ≡ Some (jobs.GaugeServe config events listen)
meant_gauge_serve words config options events listen is says_events says_listen =
    let parts = with_parts (options_of commands.GaugeServe) words (config ∷ []) options is in
    rw (parts.0, parts.1, events_read options events is.once says_events, listen_read (codes "127.0.0.1:6654") options listen is.once says_listen) refl

meant_bench : (words : List (List ℕ)) (text : List ℕ) (hosts : ℕ) → Written words (text ∷ []) [] → Spells 1 10000 text hosts
    → asked_of commands.Bench words ≡ Some (jobs.Bench hosts)
meant_bench words text hosts is spells =
    meant_plain commands.Bench words (text ∷ []) refl is ∙ ap (option_map jobs.Bench) (read 1 10000 text hosts (omega arith) (omega arith) spells)

meant_trace : (words : List (List ℕ)) (config recording dp port digits : List ℕ) (number : ℕ) (frame : List ℕ)
    → Written words (config ∷ recording ∷ dp ∷ port ∷ digits ∷ []) [] → Spells 1 0xffffff00 port number → SpellsFrame digits frame
    → asked_of commands.Trace words ≡ Some (jobs.Trace config recording dp number frame)
meant_trace words config recording dp port digits number frame is is_port is_frame =
    meant_plain commands.Trace words (config ∷ recording ∷ dp ∷ port ∷ digits ∷ []) refl is
    ∙ ap (option_map (λ (sent : SentOn). jobs.Trace sent.config sent.recording sent.dp sent.port sent.frame)) (five_again config recording dp port digits number frame is_port is_frame)

meant_walk : (words : List (List ℕ)) (config recording dp port digits : List ℕ) (number : ℕ) (frame : List ℕ)
    → Written words (config ∷ recording ∷ dp ∷ port ∷ digits ∷ []) [] → Spells 1 0xffffff00 port number → SpellsFrame digits frame
    → asked_of commands.Walk words ≡ Some (jobs.Walk config recording dp number frame)
meant_walk words config recording dp port digits number frame is is_port is_frame =
    meant_plain commands.Walk words (config ∷ recording ∷ dp ∷ port ∷ digits ∷ []) refl is
    ∙ ap (option_map (λ (sent : SentOn). jobs.Walk sent.config sent.recording sent.dp sent.port sent.frame)) (five_again config recording dp port digits number frame is_port is_frame)

meant_bgp_serve : (words : List (List ℕ)) (config router : List ℕ) (options : List CommandOption) (events : ℕ) (listen : Listen)
    → AreWritten (options_of commands.BgpServe) words (config ∷ router ∷ []) options → SaysEvents options events → SaysListen (codes "127.0.0.1:9179") options listen
    → asked_of commands.BgpServe words ≡ Some (jobs.BgpServe config router events listen)
meant_bgp_serve words config router options events listen is says_events says_listen =
    let parts = with_parts (options_of commands.BgpServe) words (config ∷ router ∷ []) options is in
    rw (parts.0, parts.1, events_read options events is.once says_events, listen_read (codes "127.0.0.1:9179") options listen is.once says_listen) refl

pub meant : (words : List (List ℕ)) (job : Job) → AskFor words job → meaning words ≡ Some job
unfolding meaning
meant w j (Check words files some is) = meant_check words files some is
meant w j (Plan words config dp is) = meant_plain commands.Plan words (config ∷ dp ∷ []) refl is
meant w j (Replay words config recording is) = meant_plain commands.Replay words (config ∷ recording ∷ []) refl is
meant w j (Serve words config options said is how) = meant_serve words config options said is how
meant w j (Gauge words config recording is) = meant_plain commands.Gauge words (config ∷ recording ∷ []) refl is
meant w j (GaugeServe words config options events listen is says_events says_listen) = meant_gauge_serve words config options events listen is says_events says_listen
meant w j (Bench words text hosts is spells) = meant_bench words text hosts is spells
meant w j (Trace words config recording dp port digits number frame is is_port is_frame) = meant_trace words config recording dp port digits number frame is is_port is_frame
meant w j (Walk words config recording dp port digits number frame is is_port is_frame) = meant_walk words config recording dp port digits number frame is is_port is_frame
meant w j (Bgp words config router recording is) = meant_plain commands.Bgp words (config ∷ router ∷ recording ∷ []) refl is
meant w j (BgpServe words config router options events listen is says_events says_listen) = meant_bgp_serve words config router options events listen is says_events says_listen

-- ---- a recorded controller

pub asked_to_record : (words : List (List ℕ)) (job : RecordedServe) → recorded_meaning words ≡ Some job → AskToRecord words job
unfolding recorded_meaning
asked_to_record words job e =
    let parts = bound (parts_of words) _ job e in
    let both = tested (are_recorded_options parts.0.options) (recorded_serve parts.0) job parts.2 in
    let config = bound (one_of parts.0.plain) _ job both.1 in
    let said = bound (serve_options parts.0.options) _ job config.2 in
    let file = bound (value_of (codes "record") parts.0.options) _ job said.2 in
    subst (AskToRecord words) (same_Some _ _ file.2) (record {
      options = parts.0.options;
      written = asks_with words recorded_options parts.0 config.0 parts.1 both.0 config.1;
      how = serve_said parts.0.options said.0 said.1;
      file = stands (codes "record") file.0 parts.0.options file.1;
    })

pub meant_to_record : (words : List (List ℕ)) (job : RecordedServe) → AskToRecord words job → recorded_meaning words ≡ Some job
unfolding recorded_meaning
meant_to_record words job is =
    let parts = with_parts recorded_options words (job.config ∷ []) is.options is.written in
    let said = serve_read is.options (record { events = job.events; reload_ms = job.reload_ms; listen = job.listen }) is.written.once is.how in
    rw (parts.0, parts.1, said, found (codes "record") job.record_file is.options is.written.once is.file) refl
