-- The parameters of `Defaults` lines that sudo 1.9 knows. sudoers(5), "SUDOERS OPTIONS".
use Rattle.std.specs.Prelude.{ℕ, Bool, false, not, ◌&&◌, ◌||◌, ◌==◌, nat_le, nat_lt, nat_eq, if◌then◌else◌, List, [], ◌∷◌, ◌++◌}
use Rattle.std.specs.Prelude.{codes, filter, fold, length, Option, None, Some, ◌+◌}
use Rattle.std.specs.List.{list_all, list_any}
use Rattle.std.specs.Str.{bytes_eq}
use Rattle.strsim.specs.Edits.{levenshtein_row}
use Rattle.sudo_text.specs.Bytes.{is_digit}
use Rattle.sudo_grammar.specs.Words.{is_upper}
use Rattle.sudo_grammar.specs.declared.policy.Parameter.{Parameter}
use Rattle.review_cautions.specs.Parameters.{name_of}

-- the names
unfoldable pub known_parameters : List (List ℕ)
known_parameters =
    codes "admin_flag" ∷ codes "always_query_group_plugin" ∷ codes "always_set_home" ∷ codes "apparmor_profile"
    ∷ codes "authenticate" ∷ codes "authfail_message" ∷ codes "badpass_message" ∷ codes "case_insensitive_group"
    ∷ codes "case_insensitive_user" ∷ codes "closefrom" ∷ codes "closefrom_override" ∷ codes "cmddenial_message"
    ∷ codes "command_timeout" ∷ codes "compress_io" ∷ codes "editor" ∷ codes "env_check" ∷ codes "env_delete"
    ∷ codes "env_editor" ∷ codes "env_file" ∷ codes "env_keep" ∷ codes "env_reset" ∷ codes "exec_background"
    ∷ codes "exempt_group" ∷ codes "fast_glob" ∷ codes "fdexec" ∷ codes "fqdn" ∷ codes "group_plugin"
    ∷ codes "ignore_audit_errors" ∷ codes "ignore_dot" ∷ codes "ignore_iolog_errors" ∷ codes "ignore_local_sudoers"
    ∷ codes "ignore_logfile_errors" ∷ codes "ignore_unknown_defaults" ∷ codes "insults" ∷ codes "intercept"
    ∷ codes "intercept_allow_setid" ∷ codes "intercept_authenticate" ∷ codes "intercept_type" ∷ codes "intercept_verify"
    ∷ codes "iolog_dir" ∷ codes "iolog_file" ∷ codes "iolog_flush" ∷ codes "iolog_group" ∷ codes "iolog_mode"
    ∷ codes "iolog_user" ∷ codes "lecture" ∷ codes "lecture_file" ∷ codes "lecture_status_dir" ∷ codes "limitprivs"
    ∷ codes "listpw" ∷ codes "log_allowed" ∷ codes "log_denied" ∷ codes "log_exit_status" ∷ codes "log_format"
    ∷ codes "log_host" ∷ codes "log_input" ∷ codes "log_output" ∷ codes "log_passwords" ∷ codes "log_server_cabundle"
    ∷ codes "log_server_keepalive" ∷ codes "log_server_peer_cert" ∷ codes "log_server_peer_key"
    ∷ codes "log_server_timeout" ∷ codes "log_server_verify" ∷ codes "log_servers" ∷ codes "log_stderr"
    ∷ codes "log_stdin" ∷ codes "log_stdout" ∷ codes "log_subcmds" ∷ codes "log_ttyin" ∷ codes "log_ttyout"
    ∷ codes "log_year" ∷ codes "logfile" ∷ codes "loglinelen" ∷ codes "long_otp_prompt" ∷ codes "mail_all_cmnds"
    ∷ codes "mail_always" ∷ codes "mail_badpass" ∷ codes "mail_no_host" ∷ codes "mail_no_perms" ∷ codes "mail_no_user"
    ∷ codes "mailerflags" ∷ codes "mailerpath" ∷ codes "mailfrom" ∷ codes "mailsub" ∷ codes "mailto"
    ∷ codes "match_group_by_gid" ∷ codes "maxseq" ∷ codes "netgroup_tuple" ∷ codes "noexec" ∷ codes "noninteractive_auth"
    ∷ codes "pam_acct_mgmt" ∷ codes "pam_askpass_service" ∷ codes "pam_login_service" ∷ codes "pam_rhost"
    ∷ codes "pam_ruser" ∷ codes "pam_service" ∷ codes "pam_session" ∷ codes "pam_setcred" ∷ codes "passprompt"
    ∷ codes "passprompt_override" ∷ codes "passprompt_regex" ∷ codes "passwd_timeout" ∷ codes "passwd_tries"
    ∷ codes "path_info" ∷ codes "preserve_groups" ∷ codes "privs" ∷ codes "pwfeedback" ∷ codes "requiretty"
    ∷ codes "restricted_env_file" ∷ codes "rlimit_as" ∷ codes "rlimit_core" ∷ codes "rlimit_cpu" ∷ codes "rlimit_data"
    ∷ codes "rlimit_fsize" ∷ codes "rlimit_locks" ∷ codes "rlimit_memlock" ∷ codes "rlimit_nofile" ∷ codes "rlimit_nproc"
    ∷ codes "rlimit_rss" ∷ codes "rlimit_stack" ∷ codes "role" ∷ codes "root_sudo" ∷ codes "rootpw"
    ∷ codes "runas_allow_unknown_id" ∷ codes "runas_check_shell" ∷ codes "runas_default" ∷ codes "runaspw"
    ∷ codes "runchroot" ∷ codes "runcwd" ∷ codes "secure_path" ∷ codes "selinux" ∷ codes "set_home" ∷ codes "set_logname"
    ∷ codes "set_utmp" ∷ codes "setenv" ∷ codes "shell_noargs" ∷ codes "stay_setuid" ∷ codes "sudoedit_checkdir"
    ∷ codes "sudoedit_follow" ∷ codes "sudoers_locale" ∷ codes "syslog" ∷ codes "syslog_badpri" ∷ codes "syslog_goodpri"
    ∷ codes "syslog_maxlen" ∷ codes "syslog_pid" ∷ codes "targetpw" ∷ codes "timestamp_timeout" ∷ codes "timestamp_type"
    ∷ codes "timestampdir" ∷ codes "timestampowner" ∷ codes "tty_tickets" ∷ codes "type" ∷ codes "umask"
    ∷ codes "umask_override" ∷ codes "use_loginclass" ∷ codes "use_netgroups" ∷ codes "use_pty"
    ∷ codes "user_command_timeouts" ∷ codes "utmp_runas" ∷ codes "verifypw" ∷ codes "visiblepw" ∷ []

-- sudo knows a parameter of this name
abbrev pub is_known : List ℕ → Bool
is_known name = list_any (bytes_eq name) known_parameters

-- how many characters are inserted, left out and replaced at least to turn one name into another (Levenshtein's distance)
abbrev pub edits : List ℕ → List ℕ → ℕ
edits name other = levenshtein_row nat_eq name other (length other)

-- both names begin with the same byte
abbrev pub begin_alike : List ℕ → List ℕ → Bool
begin_alike [] other = false
begin_alike (b ∷ bs) [] = false
begin_alike (b ∷ bs) (c ∷ cs) = b == c

-- the lengths differ by two at most
abbrev pub are_of_like_length : List ℕ → List ℕ → Bool
are_of_like_length name other = nat_le (length name) (length other + 2) && nat_le (length other) (length name + 2)

-- the names begin alike, and two edits at most turn one into the other
abbrev pub is_near : List ℕ → List ℕ → Bool
is_near name other = begin_alike name other && (are_of_like_length name other && nat_le (edits name other) 2)

-- of two names the one with fewer edits, the first if both have as many
abbrev pub closer : List ℕ → List ℕ → List ℕ → List ℕ
closer name a b = if nat_lt (edits name b) (edits name a) then b else a

abbrev pub closest : List ℕ → List (List ℕ) → Option (List ℕ)
closest name [] = None
closest name (a ∷ others) = Some (fold (closer name) a others)

-- the known name that is nearest to a name: of those near to it the first with the fewest edits; none if none is near
abbrev pub nearest : List ℕ → Option (List ℕ)
nearest name = closest name (filter (is_near name) known_parameters)

-- a letter, a digit, `_` or `-`
abbrev pub is_shown_byte : ℕ → Bool
is_shown_byte b = is_upper b || (nat_le 97 b && nat_le b 122) || is_digit b || (b == 95) || (b == 45)

abbrev pub with_nearest : List ℕ → Option (List ℕ) → List ℕ
with_nearest name None = name
with_nearest name (Some known) = name ++ codes " (" ++ known ++ codes "?)"

-- what a caution shows of an unknown name: the name with the nearest known one, if any, behind it in parentheses;
-- nothing if a byte is in it that no name has, since a terminal may obey such bytes
abbrev pub shown_name : List ℕ → List ℕ
shown_name name = if list_all is_shown_byte name then with_nearest name (nearest name) else []

-- sudo does not know the parameter
abbrev pub is_unknown : Parameter → Bool
is_unknown parameter = not (is_known (name_of parameter))
